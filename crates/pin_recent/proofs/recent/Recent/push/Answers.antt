use Rattle.std.proofs.Common.{ap, ◌∙◌}
use Rattle.std.specs.Map.{lookup}
use Rattle.pin_recent.proofs.Push.{nowhere_from_absent}
use Rattle.pin_recent.proofs.recent.Recent.push.Goals as goal

pub push-requires-clause-absent : goal.push-requires-clause-absent
push-requires-clause-absent g c =
    let s = c.self.inside.store in
    let test = g.K.PartialEq.eq c.args.key in
    nowhere_from_absent test s.map.entries s.log.first s.log.places.items c.self.invariant.ordered.tied (ap (λ r. lookup test r.pairs) c.self.view_is ∙ c.requires.absent)
