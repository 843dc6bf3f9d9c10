use Rattle.std.proofs.Common.{◌≡◌, ◌-◌, ◌≤◌, cond, true, get_or, [], ◌∷◌, ◌++◌, refl, ◌∙◌, inr, arith}
use Rattle.std.proofs.lemmas.List.Elements.{All-push, All-weaker}
use Rattle.std.proofs.lemmas.List.Quantifiers.{all_pairs_push}
use Rattle.std.proofs.lemmas.List.Sums.{sum_by_push}
use Rattle.lb_types_pins.specs.Kinds.{same_kind}
use Rattle.pin_set.specs.Rows.{is_move}
use Rattle.pin_groups.specs.Counts.{counted_kind}
use Rattle.pin_moves.specs.declared.a_move.Move.{Move}
use Rattle.pin_moves.specs.Moves.{counted_pins, moved_pins, moved_kind, move_before}
use Rattle.pin_moves.proofs.Shared.{move_of, ComesBefore, comes_before, still_before, fewer_wanted}
use Rattle.pin_moves.proofs.sharing.share.Goals as goal

pub loop-wanted-preserved : goal.loop-wanted-preserved
loop-wanted-preserved c =
    let usable = c.args.usable in
    let counted = c.args.counted.now in
    let kind = counted_kind usable counted in
    let to = c.take-to.result.0 in
    let count = c.take-to.result.1 in
    let wanted = c.loop-wanted.wanted in
    let moves = c.loop-wanted.moves.items in
    let so_far = c.loop-wanted.invariant in
    let m = move_of counted to count in
    let some : 1 ≤ wanted = omega arith in
    let taken = rw c.counted_kind.ensures at c.take-to.ensures in
    let items : c.push.new.self.items ≡ moves ++ m ∷ [] = c.push.ensures.items ∙ rw c.in_ok-push.was refl in
    rw items (record {
      ordered = taken.ordered;
      within = omega (arith, so_far.within);
      left = λ other. omega (arith, so_far.left other, taken.left other, fewer_wanted (same_kind other kind) wanted count taken.within);
      sent = λ other place.
          omega (arith, so_far.sent other place, taken.sent other place, sum_by_push (λ (n : Move). cond (is_move other place (moved_kind usable n, n.to)) n.count 0) moves m);
      whole = λ pins.
          omega (
            arith,
            so_far.whole pins,
            sum_by_push (λ (n : Move). cond (same_kind pins (moved_pins n)) n.count 0) moves m,
            fewer_wanted (same_kind pins (counted_pins counted)) wanted count taken.within,
          );
      some = All-push (λ (n : Move). 1 ≤ n.count) moves m so_far.some taken.some;
      rising = all_pairs_push (λ a b. move_before a b ≡ true) moves m so_far.rising
          (λ k d below. comes_before counted kind c.loop-wanted.left c.take-to.new.left wanted count to some taken.later (get_or moves k d) (so_far.last k d below));
      last = All-push (ComesBefore counted kind c.take-to.new.left (wanted - count)) moves m
          (All-weaker (ComesBefore counted kind c.loop-wanted.left wanted) (ComesBefore counted kind c.take-to.new.left (wanted - count))
          (λ n. still_before counted kind c.loop-wanted.left c.take-to.new.left wanted (wanted - count) to some taken.later n) moves so_far.last)
          (inr (refl, λ again. taken.used_up (omega (arith, taken.within))));
    })
