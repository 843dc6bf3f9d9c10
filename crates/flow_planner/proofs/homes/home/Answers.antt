use Rattle.std.proofs.Common.{◌≡◌, ◌+◌, ◌<◌, ◌≤◌, get_or, suc, List, length, true, refl, sym, ap, subst, ◌∙◌, arith}
use Rattle.std.proofs.lemmas.List.{get_or_default}
use Rattle.lb_types.specs.Servers.{has}
use Rattle.lb_types.proofs.Sets.{has-empty}
use Rattle.lb_types_pins.specs.declared.kind.Group.{Group}
use Rattle.flow_planner_net.specs.Networks.{no_group, options, cost, may}
use Rattle.flow_planner.specs.Fillings.{IsHome}
use Rattle.flow_planner.proofs.LeastOptions.{may-has, server-home, none-home, closed-home}
use Rattle.flow_planner.proofs.homes.home.Goals as goal

pub returns-in_default : goal.returns-in_default
returns-in_default c =
    let network = c.args.network.now in
    let group = c.args.group in
    let groups = c.args.groups.now in
    let within : group < length groups = omega (arith, ap length c.requires.groups) in
    let there = get_or_default groups group c.index-groups-group.result no_group within ∙ ap (λ (xs : List Group). get_or xs group no_group) c.requires.groups in
    let none = c.in_default.ensures.none.0 refl in
    closed-home network group c.options-options.ensures.lawful.some
    (λ k below. may-has network group k ∙ (ap (λ (g : Group). has g.kind.permitted k) (sym there) ∙ (ap (λ set. has set k) none ∙ has-empty k)))

pub returns-then-option-options : goal.returns-then-option-options
returns-then-option-options c =
    let network = c.args.network.now in
    let group = c.args.group in
    let groups = c.args.groups.now in
    let within : group < length groups = omega (arith, ap length c.requires.groups) in
    let there = get_or_default groups group c.index-groups-group.result no_group within ∙ ap (λ (xs : List Group). get_or xs group no_group) c.requires.groups in
    let past : options network ≤ suc c.in-Some.server = omega (arith, c.if-option-options.true, c.index-option.ensures.exact, c.options-options.ensures.exact) in
    closed-home network group c.options-options.ensures.lawful.some
    (λ k below. may-has network group k ∙ (ap (λ (g : Group). has g.kind.permitted k) (sym there) ∙ c.in-Some.ensures.least k (omega (arith, past))))

pub returns-then-cost : goal.returns-then-cost
returns-then-cost c =
    let network = c.args.network.now in
    let group = c.args.group in
    let groups = c.args.groups.now in
    let within : group < length groups = omega (arith, ap length c.requires.groups) in
    let there = get_or_default groups group c.index-groups-group.result no_group within ∙ ap (λ (xs : List Group). get_or xs group no_group) c.requires.groups in
    let server = c.in-Some.server in
    let option : c.index-option.result + 1 ≡ suc server = omega (arith, c.index-option.ensures.exact) in
    let below : suc server < options network = omega (arith, c.if-option-options.false, c.index-option.ensures.exact, c.options-options.ensures.exact) in
    let allowed : may network group (suc server) ≡ true = may-has network group server ∙ (ap (λ (g : Group). has g.kind.permitted server) (sym there) ∙ c.in-Some.ensures.member) in
    let cheap : cost network group 0 < cost network group (suc server) =
    subst (λ o. cost network group 0 < cost network group o) option (omega (arith, c.if-cost.true, c.cost.ensures.exact, c.cost-2.ensures.exact)) in
    none-home network group server c.requires.waits below allowed cheap

pub returns : goal.returns
returns c =
    let network = c.args.network.now in
    let group = c.args.group in
    let groups = c.args.groups.now in
    let within : group < length groups = omega (arith, ap length c.requires.groups) in
    let there = get_or_default groups group c.index-groups-group.result no_group within ∙ ap (λ (xs : List Group). get_or xs group no_group) c.requires.groups in
    let server = c.in-Some.server in
    let option : c.index-option.result + 1 ≡ suc server = omega (arith, c.index-option.ensures.exact) in
    let below : suc server < options network = omega (arith, c.if-option-options.false, c.index-option.ensures.exact, c.options-options.ensures.exact) in
    let allowed : may network group (suc server) ≡ true = may-has network group server ∙ (ap (λ (g : Group). has g.kind.permitted server) (sym there) ∙ c.in-Some.ensures.member) in
    let cheap : cost network group (suc server) ≤ cost network group 0 =
    subst (λ o. cost network group o ≤ cost network group 0) option (omega (arith, c.if-cost.false, c.cost.ensures.exact, c.cost-2.ensures.exact)) in
    subst (λ o. IsHome network group o) (sym option) (server-home network group server c.requires.waits below allowed cheap)
