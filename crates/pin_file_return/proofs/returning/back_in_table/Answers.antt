use Rattle.std.proofs.Common.{◌≡◌, ◌≤◌, ◌⊎◌, inl, inr, List, Some, length, map, sym, ap, ◌∙◌, subst, arith}
use Rattle.std.specs.Prelude.{IfOk}
use Rattle.std.specs.Option.{option_map}
use Rattle.std.proofs.lemmas.List.{length-map}
use Rattle.std.proofs.lemmas.List.Elements.{All-pop}
use Rattle.std.proofs.lemmas.Result.{IfOk-weaker}
use Rattle.pin_set.specs.declared.table_pin.TablePin.{TablePin}
use Rattle.lb_acl.specs.declared.key.TableType.{TableType}
use Rattle.lb_desk_model.specs.declared.event.SetPin.{SetPin}
use Rattle.lb_desk_model.specs.Sets.{set_pin}
use Rattle.pin_file.specs.Files.{IsFilePin}
use Rattle.pin_file_return.specs.Returns.{back_in_table, come_back}
use Rattle.pin_file_return.proofs.Walks.{back_few, walk_none, walk_over, walk_some, walk_start}
use Rattle.pin_file_return.proofs.returning.back_in_table.Goals as goal
use Rattle.pin_file_return.proofs.returning.back_in_table.Goals.{in-Some+then-len-size, in_default}

pub loop-pin-init : goal.loop-pin-init
loop-pin-init g c =
    (rw c.new-kept.ensures (walk_start c.args.servers.now c.args.table.now.kind c.settings-size.result.size c.args.now c.args.pins.now), c.requires)

pub come_back-requires : goal.come_back-requires
come_back-requires g c = (All-pop IsFilePin c.loop-pin.rest.now c.in-Some.older.now (Some c.in-Some.pin.now) c.in-Some.ensures.cases.0 c.loop-pin.invariant.1).1

pub loop-pin-preserved-in_ok-add : goal.loop-pin-preserved-in_ok-add
loop-pin-preserved-in_ok-add g c =
    let came : come_back c.args.servers.now c.args.table.now.kind c.args.now c.in-Some.pin.now ≡ Some (set_pin c.in-Some-2.set c.in-Some-2.set.moment) =
    ap (λ (kind : TableType). come_back c.args.servers.now kind c.args.now c.in-Some.pin.now) (sym c.kind.ensures)
    ∙ (sym c.in_ok-set.ensures ∙ ap (option_map (λ (s : SetPin). set_pin s s.moment)) c.in-Some-2.is) in (
      rw c.in_ok-add.ensures (walk_some c.args.servers.now c.args.table.now.kind c.settings-size.result.size c.args.now c.args.pins.now
          c.loop-pin.rest.now c.in-Some.older.now c.in-Some.pin.now (set_pin c.in-Some-2.set c.in-Some-2.set.moment) c.loop-pin.kept c.loop-pin.invariant.0
          c.in-Some.ensures.cases.0 came (omega (arith, c.len.ensures, c.if-len-size.false, c.loop-pin.invariant.0.few))),
      (All-pop IsFilePin c.loop-pin.rest.now c.in-Some.older.now (Some c.in-Some.pin.now) c.in-Some.ensures.cases.0 c.loop-pin.invariant.1).0,
    )

pub loop-pin-preserved : goal.loop-pin-preserved
loop-pin-preserved g c =
    let came =
    ap (λ (kind : TableType). come_back c.args.servers.now kind c.args.now c.in-Some.pin.now) (sym c.kind.ensures)
    ∙ (sym c.in_ok-set.ensures ∙ ap (option_map (λ (s : SetPin). set_pin s s.moment)) c.in_default-2.is) in (
      walk_none c.args.servers.now c.args.table.now.kind c.settings-size.result.size c.args.now c.args.pins.now
          c.loop-pin.rest.now c.in-Some.older.now c.in-Some.pin.now c.loop-pin.kept c.loop-pin.invariant.0 c.in-Some.ensures.cases.0 came,
      (All-pop IsFilePin c.loop-pin.rest.now c.in-Some.older.now (Some c.in-Some.pin.now) c.in-Some.ensures.cases.0 c.loop-pin.invariant.1).0,
    )

pub returns-clause-exact : goal.returns-clause-exact
returns-clause-exact g c =
    let over : (length c.loop-pin.rest.now ≡ 0) ⊎ (length c.loop-pin.kept ≡ c.settings-size.result.size) = elim c.match-split_last.branch [
      | in-Some+then-len-size w ↦ inr (omega (arith, w.len.ensures, w.if-len-size.true))
      | in_default w ↦ inl w.in_default.ensures.cases
    ] in
    let same = walk_over c.args.servers.now c.args.table.now c.args.now c.args.pins.now c.settings-size.result.size c.loop-pin.rest.now c.loop-pin.kept
    c.settings-size.ensures.size c.loop-pin.invariant.0 over in
    subst (λ (l : List TablePin). IfOk c.into_sets.result (λ sets. map (λ s. set_pin s s.moment) sets.items ≡ l)) same c.into_sets.ensures

pub returns-clause-few : goal.returns-clause-few
returns-clause-few g c =
    IfOk-weaker c.into_sets.result (λ sets. map (λ s. set_pin s s.moment) sets.items ≡ back_in_table c.args.servers.now c.args.table.now c.args.now c.args.pins.now)
    (λ sets. length sets.items ≤ length c.args.pins.now)
    (λ sets e.
    let few = back_few c.args.servers.now c.args.table.now c.args.now c.args.pins.now in
    let as_many = length-map sets.items (λ s. set_pin s s.moment) in
    let long = ap (λ (l : List TablePin). length l) e in
    omega (arith, few, as_many, long))
    (returns-clause-exact g c)
