use Rattle.pin_recent.proofs.Found.{place_all, nowhere_all}
use Rattle.pin_recent.proofs.store.Store.place_of.Goals as goal

pub returns-clause-found : goal.returns-clause-found
returns-clause-found g c =
    place_all g.met.K.Eq.laws c.args.key.now c.args.self.now.map.entries c.get_index_of.ensures.unique c.get_index_of.result c.get_index_of.ensures.index

pub returns-clause-absent : goal.returns-clause-absent
returns-clause-absent g c =
    nowhere_all (g.K.PartialEq.eq c.args.key.now) c.args.self.now.map.entries c.get_index_of.result c.get_index_of.ensures.found
