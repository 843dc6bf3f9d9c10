use Rattle.std.proofs.Common.{◌≡◌, ◌+◌, ◌*◌, ◌≢◌, ℕ, List, get_or, set, sym, ◌∙◌, arith, length-set}
use Rattle.flow_planner_net.specs.Networks.{options, size}
use Rattle.flow_planner_net.specs.States.{used_of, at}
use Rattle.flow_planner_net.proofs.Numbers.{count-le}
use Rattle.flow_planner_net.proofs.Tables.{place-lt, used_of-is, used_of-set, at-read, at-same, at-other}
use Rattle.std.proofs.lemmas.Nat.{mul-le}
use Rattle.cert_check_law.proofs.Sums.{le-sum_to}
use Rattle.flow_planner.proofs.FillSteps.{filling-le, put_placed, put_others, put_filling}
use Rattle.flow_planner.proofs.placing.put.Goals as goal

pub bounds-counts-option : goal.bounds-counts-option
bounds-counts-option c =
    let network = c.args.network.now in
    rw c.size-width.ensures.exact (omega (arith, c.requires.roomy.table, place-lt (size network) (options network) c.args.option c.args.group c.requires.option c.requires.group))

pub overflow_add-more : goal.overflow_add-more
overflow_add-more c =
    let network = c.args.network.now in
    let lawful = c.requires.roomy.lawful in
    let few = mul-le (options network) (size network) 129 16777216 lawful.few_options lawful.few_groups in
    rw c.size-width.ensures.exact (omega (arith, few, place-lt (size network) (options network) c.args.option c.args.group c.requires.option c.requires.group))

pub overflow_add-more-2 : goal.overflow_add-more-2
overflow_add-more-2 c =
    let network = c.args.network.now in
    let counts = c.args.counts.now in
    let used = used_of (size network) counts in
    let read : get_or counts (c.args.option * c.size-width.result + c.args.group) 0 ≡ used c.args.option c.args.group =
    rw c.size-width.ensures.exact (sym (used_of-is (size network) counts c.args.option c.args.group)) in
    omega (arith, read, le-sum_to (options network) (λ o. used o c.args.group) c.args.option c.requires.option, c.requires.few, count-le network c.requires.roomy.lawful c.args.group c.requires.group)

pub overflow_add-load : goal.overflow_add-load
overflow_add-load c =
    let network = c.args.network.now in
    let small = filling-le network c.requires.roomy.lawful (used_of (size network) c.args.counts.now) (at c.args.loads.now) c.requires.filling c.args.option c.requires.option in
    omega (arith, small, at-read c.args.loads.now c.args.option, c.requires.few, count-le network c.requires.roomy.lawful c.args.group c.requires.group)

pub returns : goal.returns
returns c =
    let network = c.args.network.now in
    let group = c.args.group in
    let option = c.args.option in
    let q = c.args.pins in
    let counts = c.args.counts.now in
    let loads = c.args.loads.now in
    let old = used_of (size network) counts in
    let n : ℕ = get_or counts (option * size network + group) 0 + q in
    let written : List ℕ = set counts (option * size network + group) n in
    let load : ℕ = get_or loads option 0 + q in
    let loaded : List ℕ = set loads option load in
    let roomy = c.requires.roomy in
    let within = place-lt (size network) (options network) option group c.requires.option c.requires.group in
    let changed = used_of-set (size network) counts option group n c.requires.group (omega (arith, roomy.table, within)) in
    let more : n ≡ old option group + q = omega (arith, used_of-is (size network) counts option group) in
    let here : at loaded option ≡ at loads option + q = omega (arith, at-same loads option load (omega (arith, roomy.loads_len, c.requires.option)), at-read loads option) in
    let others : (k : ℕ) → k ≢ option → at loaded k ≡ at loads k = λ k ne. at-other loads option k load ne in
    let new = used_of (size network) written in
    rw c.size-width.ensures.exact (record {
      roomy = record {
        lawful = roomy.lawful;
        table = length-set counts (option * size network + group) n ∙ roomy.table;
        loads_len = length-set loads option load ∙ roomy.loads_len;
      };
      filling = put_filling network old new (at loads) (at loaded) group option q n c.requires.group c.requires.option c.requires.filling c.requires.home c.requires.few changed more here others;
      placed = put_placed network old new (at loads) (at loaded) group option q n c.requires.group c.requires.option c.requires.filling c.requires.home c.requires.few changed more here others;
      others = put_others network old new (at loads) (at loaded) group option q n c.requires.group c.requires.option c.requires.filling c.requires.home c.requires.few changed more here others;
    })
