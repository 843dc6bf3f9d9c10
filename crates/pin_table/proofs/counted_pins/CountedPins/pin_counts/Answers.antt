use Rattle.std.proofs.Common.{◌++◌, ◌∷◌, [], map, ap, sym, subst, ◌∙◌, append-nil, append_assoc}
use Rattle.pin_moves.specs.Moves.{AreRisingCounts}
use Rattle.pin_table.specs.Counted.{listed}
use Rattle.pin_table.specs.Kinds.{ArePinCounts}
use Rattle.pin_table.proofs.Shared.{as_count, listed_exact, listed_rising}
use Rattle.pin_table.proofs.counted_pins.CountedPins.pin_counts.Goals as goal

pub loop-kind-preserved : goal.loop-kind-preserved
loop-kind-preserved g c =
    let next = as_count (c.in-Some.kind.now, c.in-Some.count.now) in
    let items = c.loop-kind.counts.items in
    let rest = map as_count c.next.new.self in
    ap (λ l. l ++ rest) c.in_ok-push.ensures.items
    ∙ append_assoc items (next ∷ []) rest
    ∙ ap (λ es. items ++ map as_count es) (sym c.in-Some.ensures.steps)
    ∙ c.loop-kind.invariant

pub returns-clause-rising : goal.returns-clause-rising
returns-clause-rising g c =
    let entries = c.self.inside.counts in
    let items = sym (append-nil c.loop-kind.counts.items) ∙ ap (λ es. c.loop-kind.counts.items ++ map as_count es) (sym c.in-None.ensures.steps.0) ∙ c.loop-kind.invariant
    ∙ ap (λ es. map as_count es) (c.into_iter-kind-iterator.ensures.into_iter_gives ∙ c.iter-kind-items.ensures.rest) in
    subst AreRisingCounts (sym items) (listed_rising entries c.iter-kind-items.ensures.rising)

pub returns-clause-exact : goal.returns-clause-exact
returns-clause-exact g c =
    let entries = c.self.inside.counts in
    let pins = listed c.self.inside.pins.pairs in
    let items = sym (append-nil c.loop-kind.counts.items) ∙ ap (λ es. c.loop-kind.counts.items ++ map as_count es) (sym c.in-None.ensures.steps.0) ∙ c.loop-kind.invariant
    ∙ ap (λ es. map as_count es) (c.into_iter-kind-iterator.ensures.into_iter_gives ∙ c.iter-kind-items.ensures.rest) in
    subst (λ u. ArePinCounts u.pins c.loop-kind.counts.items) c.self.view_is
    (subst (ArePinCounts pins) (sym items) (listed_exact pins entries c.self.invariant.counted))
