use Rattle.std.proofs.Common.{sym, ◌∙◌}
use Rattle.lb_script.proofs.AskedWords.{asked_whole, asked_end, cost_ends, cost_fails, rule_counts, rule_fails}
use Rattle.lb_script.proofs.asking.read_asked.Goals as goal

pub loop-word-init : goal.loop-word-init
loop-word-init c = rw c.new-rules.ensures.items (asked_whole c.args.servers.now c.args.words.now)

pub returns-in_default-last_cost : goal.returns-in_default-last_cost
returns-in_default-last_cost c =
    let now = rw c.in-Some.ensures.first at c.loop-word.invariant in
    let told = sym c.in-Some-cost_digits.ensures in
    let last = sym c.in_default-last_cost.ensures.exact in
    sym (cost_fails c.loop-word.rules.items c.args.servers.now c.in-Some.word.now c.in-Some-cost_digits.digits.now c.next_part.new.self told last) ∙ now

pub returns-in-Some-cost_digits : goal.returns-in-Some-cost_digits
returns-in-Some-cost_digits c =
    let now = rw c.in-Some.ensures.first at c.loop-word.invariant in
    let told = sym c.in-Some-cost_digits.ensures in
    let last = sym c.in-Some-last_cost.ensures.exact in
    rw c.new-rules-in-Some-cost_digits.ensures
    (sym (cost_ends c.loop-word.rules.items c.args.servers.now c.in-Some.word.now c.in-Some-cost_digits.digits.now c.next_part.new.self c.in-Some-last_cost.cost _ _ told last) ∙ now)

pub returns-in_default-find_server : goal.returns-in_default-find_server
returns-in_default-find_server c =
    let now = rw c.in-Some.ensures.first at c.loop-word.invariant in
    let told = sym c.in_default-cost_digits.ensures in
    let found = sym c.in_default-find_server.ensures in
    sym (rule_fails c.loop-word.rules.items c.args.servers.now c.in-Some.word.now c.next_part.new.self told found) ∙ now

pub loop-word-preserved : goal.loop-word-preserved
loop-word-preserved c =
    let now = rw c.in-Some.ensures.first at c.loop-word.invariant in
    let told = sym c.in_default-cost_digits.ensures in
    let found = sym c.in-Some-find_server.ensures in
    rw c.in_ok-push.ensures.items
    (sym (rule_counts c.loop-word.rules.items c.args.servers.now c.in-Some.word.now c.next_part.new.self c.in-Some-find_server.server told found) ∙ now)

pub returns : goal.returns
returns c =
    let now = rw c.in_default.ensures.none.0 at c.loop-word.invariant in
    rw c.new-rules-2.ensures (sym (asked_end c.loop-word.rules.items c.args.servers.now _ _) ∙ now)
