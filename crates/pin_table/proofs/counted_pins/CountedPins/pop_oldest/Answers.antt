use Rattle.std.proofs.Common.{◌<◌, ◌∷◌, ap, sym, subst, ◌∙◌}
use Rattle.pin_counts.specs.Counts.{HasOneMore}
use Rattle.pin_table.specs.declared.table_kind.TableKind.{TableKind}
use Rattle.pin_table.specs.Counted.{listed}
use Rattle.pin_table.specs.Kinds.{same_kind, counted_of, AreCounts}
use Rattle.pin_table.specs.Pins.{held_pin}
use Rattle.pin_table.proofs.Used.{first_is}
use Rattle.pin_table.proofs.Counting.{some_first, counted-pop}
use Rattle.pin_table.proofs.counted_pins.CountedPins.pop_oldest.Goals as goal

pub remove-requires : goal.remove-requires
remove-requires g c =
    let kept = c.self.inside in
    let is = first_is kept.pins.pairs (c.in_ok-name.name, c.in_ok-name.held) c.in_ok-name.ensures.oldest ∙ ap (λ l. (c.in_ok-name.name, c.in_ok-name.held) ∷ l) (sym c.in_ok-name.ensures.left) in
    let are = subst (λ l. AreCounts (listed l) kept.counts) is c.self.invariant.counted in
    subst (λ (k : TableKind). 0 < counted_of kept.counts k) (sym c.of.ensures)
    (some_first kept.counts (held_pin c.in_ok-name.name c.in_ok-name.held) (listed c.pop_oldest.new.self.pairs) are)

pub invariant_of-self-2 : goal.invariant_of-self-2
invariant_of-self-2 g c =
    let kept = c.self.inside in
    let new = c.remove.new.self in
    let is = first_is kept.pins.pairs (c.in_ok-name.name, c.in_ok-name.held) c.in_ok-name.ensures.oldest ∙ ap (λ l. (c.in_ok-name.name, c.in_ok-name.held) ∷ l) (sym c.in_ok-name.ensures.left) in
    counted-pop kept.counts new c.in_ok-name.name c.in_ok-name.held kept.pins.pairs c.pop_oldest.new.self.pairs c.self.invariant is
    (subst (λ (k : TableKind). HasOneMore same_kind new k kept.counts) c.of.ensures c.remove.ensures)
