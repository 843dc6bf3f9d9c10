use Rattle.std.proofs.Common.{◌≡◌, ℕ, ◌++◌, List, Option, None, cond, option_to_list, sym, ap, ◌∙◌, arith}
use Rattle.std.specs.Prelude.{filter_map}
use Rattle.lb_types.specs.Servers.{has, members_below}
use Rattle.pin_file_return.specs.Saves.{name_at}
use Rattle.pin_file_return.proofs.Members.{all_names, next_name, none_named, none_yet}
use Rattle.pin_file_return.proofs.saving.names_of.Goals as goal

pub returns-then-is_empty : goal.returns-then-is_empty
returns-then-is_empty c = c.new-names.ensures.items ∙ none_named c.args.servers.now c.args.set (c.is_empty.ensures.0 c.if-is_empty.true)

pub loop-i-init : goal.loop-i-init
loop-i-init c = c.new-names.ensures.items ∙ none_yet c.args.servers.now c.args.set

pub loop-i-preserved : goal.loop-i-preserved
loop-i-preserved c =
    let name : c.name_in.result ≡ cond (has c.args.set c.loop-i.i) (name_at c.args.servers.now c.loop-i.i) None =
    c.name_in.ensures ∙ ap (λ (s : ℕ). cond (has c.args.set s) (name_at c.args.servers.now s) None) c.new.ensures in
    c.in_ok-push_name.ensures
    ∙ (ap (λ (l : List (List ℕ)). l ++ option_to_list c.name_in.result) c.loop-i.invariant
    ∙ (ap (λ (o : Option (List ℕ)). filter_map (name_at c.args.servers.now) (members_below c.loop-i.i c.args.set) ++ option_to_list o) name
    ∙ sym (next_name c.args.servers.now c.args.set c.loop-i.i)))

pub returns : goal.returns
returns c =
    let end : c.loop-i.i ≡ 128 = omega (arith, c.loop-i-test.false, c.loop-i.auto.i-end) in
    c.loop-i.invariant
    ∙ (ap (λ (k : ℕ). filter_map (name_at c.args.servers.now) (members_below k c.args.set)) end ∙ all_names c.args.servers.now c.args.set)
