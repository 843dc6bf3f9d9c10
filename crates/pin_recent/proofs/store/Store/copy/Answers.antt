use Rattle.std.proofs.Common.{sym, subst}
use Rattle.pin_recent.proofs.Copies.{Copying, copying_more, copied_whole, copied_exact}
use Rattle.pin_recent.proofs.store.Store.copy.Goals as goal

pub loop-key-preserved : goal.loop-key-preserved
loop-key-preserved g c =
    let is_clone = g.K.Clone.is_clone in
    let start = c.into_iter-key-iterator.result in
    let rest = c.next.new.self in
    let pairs = c.loop-key.pairs.items in
    let before = subst (λ es. Copying is_clone start es pairs) c.in-Some.ensures.steps c.loop-key.invariant in
    subst (λ l. Copying is_clone start rest l) (sym c.in_ok-push.ensures.items)
    (copying_more is_clone start rest pairs (c.in-Some.key.now, c.in-Some.stamped.now) c.in_ok-clone.field-0 before c.in_ok-clone.ensures.cases)

pub invariant_of-result : goal.invariant_of-result
invariant_of-result g c =
    let s = c.args.self.now in
    copied_whole g.K.Clone.is_clone c.into_iter-key-iterator.result s.map.entries c.loop-key.key-iterator c.loop-key.pairs.items s.log.places.items
    c.in_ok-places.places.items c.loop-key.invariant c.in-None.ensures.steps.0 c.into_iter-key-iterator.ensures.into_iter_gives.0 c.in_ok-places.ensures
    c.requires.all

pub returns : goal.returns
returns g c =
    let s = c.args.self.now in
    copied_exact g.K.Clone.is_clone c.into_iter-key-iterator.result s.map.entries c.loop-key.key-iterator c.loop-key.pairs.items s.log.places.items
    c.in_ok-places.places.items c.loop-key.invariant c.in-None.ensures.steps.0 c.into_iter-key-iterator.ensures.into_iter_gives.0 c.in_ok-places.ensures
