use Rattle.std.proofs.Common.{◌+◌, ◌-◌, ◌*◌, ◌≢◌, ℕ, List, set, sym, arith, length-set}
use Rattle.flow_planner_net.specs.States.{used_of}
use Rattle.flow_planner_net.proofs.Tables.{used_of-set}
use Rattle.flow_planner_net.proofs.Moves.{moved-sets}
use Rattle.flow_planner_repair.proofs.push.shift.Goals as goal

pub overflow_sub-left : goal.overflow_sub-left
overflow_sub-left c = omega (arith, c.requires.enough, c.pins_of.ensures)

pub overflow_add-more : goal.overflow_add-more
overflow_add-more c =
    let left : ℕ = c.pins_of.result - c.args.pins in
    let first = used_of-set c.args.width c.args.counts.now c.args.source c.args.via left c.requires.group c.requires.source in
    let other : c.args.target ≢ c.args.source = λ same. c.requires.apart (sym same) in
    omega (arith, c.requires.room, c.pins_of-2.ensures, first.other_options c.args.target c.args.via c.requires.group other)

pub returns-clause-moved : goal.returns-clause-moved
returns-clause-moved c =
    let width = c.args.width in
    let old = c.args.counts.now in
    let source = c.args.source in
    let target = c.args.target in
    let via = c.args.via in
    let left : ℕ = c.pins_of.result - c.args.pins in
    let more : ℕ = c.pins_of-2.result + c.args.pins in
    let one : List ℕ = set old (source * width + via) left in
    let two : List ℕ = set one (target * width + via) more in
    let first = used_of-set width old source via left c.requires.group c.requires.source in
    let second = used_of-set width one target via more c.requires.group (omega (arith, length-set old (source * width + via) left, c.requires.target)) in
    let other : target ≢ source = λ same. c.requires.apart (sym same) in
    moved-sets width (used_of width old) (used_of width one) (used_of width two) source target via c.args.pins left more c.requires.group c.requires.apart first second
    (omega (arith, c.pins_of.ensures, c.requires.enough))
    (omega (arith, c.pins_of-2.ensures, first.other_options target via c.requires.group other))
