use Rattle.std.proofs.Common.{◌≡◌, ◌+◌, ◌*◌, ◌<◌, get_or, List, length, sym, ap, ◌∙◌, arith}
use Rattle.std.proofs.lemmas.List.{get_or_default}
use Rattle.lb_types_pins.specs.declared.kind.Group.{Group}
use Rattle.lb_types_pins.specs.declared.kind.Row.{Row}
use Rattle.flow_planner_net.specs.Networks.{size, no_group}
use Rattle.flow_planner_net.specs.States.{used_of}
use Rattle.flow_planner_net.proofs.Tables.{used_of-is}
use Rattle.flow_planner.proofs.RowSteps.{group_rows-none, row_more, row_past}
use Rattle.flow_planner.proofs.rows.add_rows.Goals as goal
use Rattle.flow_planner.proofs.rows.add_rows.Goals.{then-pins-gt0+in_ok-push, else-pins-gt0}

pub loop-option-init : goal.loop-option-init
loop-option-init c =
    let network = c.args.network.now in
    group_rows-none network (used_of (size network) c.args.counts.now) c.args.group c.args.rows.now.items

pub loop-option-preserved : goal.loop-option-preserved
loop-option-preserved c =
    let network = c.args.network.now in
    let groups = c.args.groups.now in
    let counts = c.args.counts.now in
    let used = used_of (size network) counts in
    let g = c.args.group in
    let here = c.loop-option in
    let o = here.option in
    let front = c.args.rows.now.items in
    let width : c.size-width.result ≡ size network = c.size-width.ensures.exact in
    let pins : get_or counts (o * c.size-width.result + g) 0 ≡ used o g = rw width (sym (used_of-is (size network) counts o g)) in
    elim c.if-pins-gt0.branch [
      | then-pins-gt0+in_ok-push w ↦
          let within : g < length groups = omega (arith, ap length c.requires.groups) in
          let group = get_or groups g w.index-groups-group.result in
          let there = get_or_default groups g w.index-groups-group.result no_group within ∙ ap (λ (xs : List Group). get_or xs g no_group) c.requires.groups in
          let row : Row = record {
            kind = group.kind;
            new_place = w.place_of.result;
            count = get_or counts (o * c.size-width.result + g) 0;
          } in
          rw (w.rows-is, w.in_ok-push.ensures.items)
          (row_more network used g o front here.rows.items row here.invariant (ap (λ (x : Group). x.kind) there) w.place_of.ensures pins
          (omega (arith, w.if-pins-gt0.true, pins)))
      | else-pins-gt0 w ↦ rw w.rows-is (row_past network used g o front here.rows.items here.invariant (omega (arith, w.if-pins-gt0.false, pins)))
    ]
