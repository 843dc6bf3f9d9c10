use Rattle.std.proofs.Common.{◌≡◌, length, ap, sym, subst, ◌∙◌, arith}
use Rattle.pin_recent.specs.Recent.{IsChanged}
use Rattle.pin_table.specs.declared.table_kind.TableKind.{TableKind}
use Rattle.pin_table.specs.Counted.{listed}
use Rattle.pin_table.specs.Kinds.{counted_of}
use Rattle.pin_table.specs.Placed.{AreMovesOf, ArePlaced}
use Rattle.pin_table.specs.Placing.{Goes, arriving}
use Rattle.pin_table.proofs.Placed.{may_go, length-placed}
use Rattle.pin_table.proofs.Arriving.{moved_all, all_placed, all_counted}
use Rattle.pin_table.proofs.counted_pins.CountedPins.set_places.Goals as goal

pub counts_after-requires-clause-few : goal.counts_after-requires-clause-few
counts_after-requires-clause-few g c =
    rw c.deref.ensures.value (omega (arith, moved_all c.args.self.now.pins c.args.moves.items c.requires.of_pins, c.requires.few))

pub change_values-requires : goal.change_values-requires
change_values-requires g c = λ order permuted.
    let are = subst (λ u. AreMovesOf u.pins c.args.moves.items) (sym c.self.view_is) c.requires.of_pins in
    may_go c.self.inside.pins.pairs order c.new-moving.result
    (subst (λ ms. AreMovesOf (listed c.self.inside.pins.pairs) ms) (sym c.new-moving.ensures) are) permuted

pub invariant_of-self : goal.invariant_of-self
invariant_of-self g c =
    let moves = c.args.moves.items in
    let kept = c.self.inside in
    let are = subst (λ u. AreMovesOf u.pins moves) (sym c.self.view_is) c.requires.of_pins in
    let changed = subst (λ ms. IsChanged Goes ms c.change_values.new.change kept.pins.pairs c.change_values.new.self.pairs) c.new-moving.ensures c.change_values.ensures.changed in
    let arrive = subst (λ ms. (kind : TableKind) → counted_of c.in_ok-counts.counts kind ≡ arriving ms kind) c.deref.ensures.value c.in_ok-counts.ensures in
    all_counted moves c.change_values.new.change kept.pins.pairs c.change_values.new.self.pairs changed c.in_ok-counts.counts are c.self.invariant.apart arrive

pub returns-clause-ok : goal.returns-clause-ok
returns-clause-ok g c =
    let moves = c.args.moves.items in
    let kept = c.self.inside in
    let are = subst (λ u. AreMovesOf u.pins moves) (sym c.self.view_is) c.requires.of_pins in
    let changed = subst (λ ms. IsChanged Goes ms c.change_values.new.change kept.pins.pairs c.change_values.new.self.pairs) c.new-moving.ensures c.change_values.ensures.changed in
    subst (λ u. ArePlaced moves u.pins (listed c.change_values.new.self.pairs)) c.self.view_is
    (all_placed moves c.change_values.new.change kept.pins.pairs c.change_values.new.self.pairs changed are)

pub returns-clause-len : goal.returns-clause-len
returns-clause-len g c =
    let moves = c.args.moves.items in
    let kept = c.self.inside in
    let are = subst (λ u. AreMovesOf u.pins moves) (sym c.self.view_is) c.requires.of_pins in
    let changed = subst (λ ms. IsChanged Goes ms c.change_values.new.change kept.pins.pairs c.change_values.new.self.pairs) c.new-moving.ensures c.change_values.ensures.changed in
    length-placed moves (listed kept.pins.pairs) (listed c.change_values.new.self.pairs)
    (all_placed moves c.change_values.new.change kept.pins.pairs c.change_values.new.self.pairs changed are)
    ∙ ap (λ u. length u.pins) c.self.view_is
