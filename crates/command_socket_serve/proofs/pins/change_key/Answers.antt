use Rattle.std.proofs.Common.{◌≡◌, ◌≢◌, ℕ, false, true≢false, length, vec_len, arith, refl, sym, subst, ◌∙◌}
use Rattle.std.specs.Bool.{◌==◌}
use Rattle.std.proofs.lemmas.Bool.{eqb-true}
use Rattle.command_socket_serve.specs.Desks.{LooksAt, desk_seen}
use Rattle.command_socket_serve.proofs.Keyed.{all_changed, one_changed}
use Rattle.command_socket_serve.proofs.pins.change_key.Goals as goal

pub returns : goal.returns
returns g c =
    let seen = desk_seen g.S.Mover.entries g.S.Mover.planned_now g.S.Mover.backend g.S.Steer.sights in
    let looks : LooksAt (seen c.args.desk.now) (seen c.rows.new.self) = record {
      entries = c.in-Ok.ensures.entries;
      planned_now = c.in-Ok.ensures.planned_now;
      backend = c.in-Ok.ensures.backend;
      sights = c.in-Ok.ensures.sights;
    } in
    let filled = sym c.is_empty.ensures ∙ c.if-is_empty.false in
    let as_many : vec_len c.keep_key.new.pins ≡ length c.keep_key.new.pins.items = omega (arith, c.keep_key.new.pins.ok.0) in
    let some : length c.keep_key.new.pins.items ≢ 0 = λ none. true≢false (subst (λ (n : ℕ). (n == 0) ≡ false) (as_many ∙ none) filled) in
    let found = sym c.in-Ok-Some.field-0-is ∙ c.in-Ok-Some.ensures in
    let all = rw c.deref.ensures.value at c.change_each.ensures in
    all_changed c.args.named.now c.args.word.now c.in-Ok-Some.key found c.args.change.now c.args.moment c.in-Ok.pins.items
    c.keep_key.new.pins.items (seen c.args.desk.now) (seen c.rows.new.self) (seen c.change_each.new.desk) c.in-Ok.ensures.pins looks c.keep_key.ensures
    c.args.out.now c.change_each.new.out c.args.sent c.change_each.result some all

pub returns-then-is_empty : goal.returns-then-is_empty
returns-then-is_empty g c =
    let seen = desk_seen g.S.Mover.entries g.S.Mover.planned_now g.S.Mover.backend g.S.Steer.sights in
    let looks : LooksAt (seen c.args.desk.now) (seen c.rows.new.self) = record {
      entries = c.in-Ok.ensures.entries;
      planned_now = c.in-Ok.ensures.planned_now;
      backend = c.in-Ok.ensures.backend;
      sights = c.in-Ok.ensures.sights;
    } in
    let none : vec_len c.keep_key.new.pins ≡ 0 = eqb-true (vec_len c.keep_key.new.pins) 0 (sym c.is_empty.ensures ∙ c.if-is_empty.true) in
    let as_many : length c.keep_key.new.pins.items ≡ 0 = omega (arith, none, c.keep_key.new.pins.ok.0) in
    let found = sym c.in-Ok-Some.field-0-is ∙ c.in-Ok-Some.ensures in
    let pin = rw c.empty-want.ensures.exact at c.change_pin.ensures in
    one_changed c.args.named.now c.args.word.now c.in-Ok-Some.key found c.args.change.now c.args.moment c.in-Ok.pins.items
    c.keep_key.new.pins.items (seen c.args.desk.now) (seen c.rows.new.self) (seen c.change_pin.new.desk) c.in-Ok.ensures.pins looks c.keep_key.ensures
    c.args.out.now c.change_pin.new.out c.args.sent c.change_pin.result as_many pin
