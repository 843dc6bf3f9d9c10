use Rattle.std.proofs.Common.{map, refl, ap, ◌∙◌}
use Rattle.std.specs.List.{filter_map}
use Rattle.lb_config_rules.specs.Resolved.{choice_by, pin_cost_by, use_server_by}
use Rattle.lb_config_rules.specs.Rules.{choices_of}
use Rattle.lb_config_rules.proofs.SameRules.{choices_same, pin_costs_same, use_servers_same}
use Rattle.lb_config_rules.proofs.section_rules.resolve_parts.Goals as goal

pub returns-clause-choices : goal.returns-clause-choices
returns-clause-choices c =
    let parts = c.parts.inside in
    c.in_ok-choices.ensures ∙ ap (λ groups. filter_map (choice_by c.args.backends.now groups) parts.backend_rules.items) c.in_ok-named.ensures
    ∙ choices_same c.args.backends.now parts.acls.items parts.backend_rules.items
    ∙ ap (choices_of c.args.backends.now) c.parts.view_is

pub returns-clause-back : goal.returns-clause-back
returns-clause-back c =
    let parts = c.parts.inside in
    let servers = c.in_ok-use_servers.ensures ∙ ap (λ groups. filter_map (use_server_by c.args.servers.now groups) parts.server_rules.items) c.in_ok-named.ensures
    ∙ use_servers_same c.args.servers.now parts.acls.items parts.server_rules.items in
    let costs = c.in_ok-pin_costs.ensures ∙ ap (λ groups. map (pin_cost_by groups) parts.cost_rules.items) c.in_ok-named.ensures
    ∙ pin_costs_same parts.acls.items parts.cost_rules.items in
    rw (← c.parts.view_is, servers, costs, c.stick_on_of-stick_on.ensures) refl
