use Rattle.std.proofs.Common.{◌≡◌, ◌≢◌, true, false, Some, refl, sym, ◌∙◌, arith}
use Rattle.lb_types.specs.Servers.{has}
use Rattle.pin_set.proofs.SmallViews.{small_view, other_set, none_below, some_below, IsSmall}
use Rattle.pin_set.specs.Views.{IsBelow}
use Rattle.lb_types_rows.proofs.pins.a_pin_that_loses_its_server_is_moved_and_one_that_had_none_is_not.Goals as goal

pub new-view-requires : goal.new-view-requires
new-view-requires g c =
    let a_in_a : has c.with-wants_a.result 0 ≡ true = c.with-wants_a.ensures.members 0 ∙ rw c.new-a.ensures refl in
    let a_in_b : has c.with-wants_b.result 0 ≡ false = c.with-wants_b.ensures.members 0 ∙ rw (c.new.ensures, c.empty-none.ensures.none 0) refl in
    let b_in_b : has c.with-wants_b.result 1 ≡ true = c.with-wants_b.ensures.members 1 ∙ rw c.new.ensures refl in
    let first : c.pin-2.result.id.want ≢ c.pin.result.id.want =
    rw (c.pin-2.ensures.want, c.pin.ensures.want) (other_set c.with-wants_a.result c.empty-none.result 0 a_in_a (c.empty-none.ensures.none 0)) in
    let second : c.pin-3.result.id.want ≢ c.pin.result.id.want =
    rw (c.pin-3.ensures.want, c.pin.ensures.want) (other_set c.with-wants_b.result c.empty-none.result 1 b_in_b (c.empty-none.ensures.none 1)) in
    let third : c.pin-2.result.id.want ≢ c.pin-3.result.id.want =
    rw (c.pin-2.ensures.want, c.pin-3.ensures.want) (other_set c.with-wants_a.result c.with-wants_b.result 0 a_in_a a_in_b) in
    let at_a : IsBelow 1 (Some c.new-a.result) = some_below 1 c.new-a.result (omega arith) in
    let one : IsSmall c.pin.result = record { place = rw c.pin.ensures.place at_a; cost_from = omega arith; cost_to = omega arith } in
    let two : IsSmall c.pin-2.result = record { place = rw c.pin-2.ensures.place at_a; cost_from = omega arith; cost_to = omega arith } in
    let three : IsSmall c.pin-3.result = record { place = rw c.pin-3.ensures.place (none_below 1); cost_from = omega arith; cost_to = omega arith } in
    rw (c.empty-none.ensures.exact, c.in_ok-servers.ensures.items, c.in_ok-pins.ensures.items)
    (small_view _ c.pin.result c.pin-2.result c.pin-3.result c.as_bytes.ensures.name (omega arith) (λ e. first (sym e)) (λ e. second (sym e)) third one two three)
