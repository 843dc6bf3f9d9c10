use Rattle.std.proofs.Common.{◌+◌, ◌-◌, ◌<◌, ◌≢◌, ℕ, List, get_or, set, length, sym, ◌∙◌, arith, length-set}
use Rattle.flow_planner_net.proofs.Tables.{at-read, at-same, at-other}
use Rattle.flow_planner_repair.proofs.push.carry.Goals as goal

pub overflow_sub-left : goal.overflow_sub-left
overflow_sub-left c = omega (arith, c.requires.enough, at-read c.args.loads.now c.args.source)

pub overflow_add-more : goal.overflow_add-more
overflow_add-more c =
    let old = c.args.loads.now in
    let source = c.args.source in
    let target = c.args.target in
    let other : target ≢ source = λ same. c.requires.apart (sym same) in
    let one : List ℕ = set old source (get_or old source 0 - c.args.pins) in
    omega (arith, c.requires.room, at-read one target, at-other old source target (get_or old source 0 - c.args.pins) other)

pub returns : goal.returns
returns c =
    let old = c.args.loads.now in
    let source = c.args.source in
    let target = c.args.target in
    let pins = c.args.pins in
    let left : ℕ = get_or old source 0 - pins in
    let one : List ℕ = set old source left in
    let more : ℕ = get_or one target 0 + pins in
    let other : target ≢ source = λ same. c.requires.apart (sym same) in
    let within : target < length one = omega (arith, length-set old source left, c.requires.target) in
    record {
      len = length-set one target more ∙ length-set old source left;
      taken = omega (arith, at-other one target source more c.requires.apart, at-same old source left c.requires.source, at-read old source, c.requires.enough);
      given = omega (arith, at-same one target more within, at-read one target, at-other old source target left other);
      others = λ o ne_source ne_target. at-other one target o more ne_target ∙ at-other old source o left ne_source;
    }
