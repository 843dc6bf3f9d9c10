use Rattle.std.proofs.Common.{List, sym, ap, subst, ◌∙◌}
use Rattle.dual_cert_plan.specs.declared.server.Server.{Server}
use Rattle.dual_cert_plan.specs.Plans.{PlanParts, plan_of_parts}
use Rattle.flow_planner_net.specs.States.{at}
use Rattle.flow_planner_law.specs.Accepted.{IsAccepted}
use Rattle.flow_planner.specs.Plannings.{priced_servers}
use Rattle.flow_planner.proofs.Writing.{parts-accepted}
use Rattle.flow_planner.proofs.written.written.Goals as goal

pub new-requires : goal.new-requires
new-requires c =
    let price = at c.args.prices.now in
    let servers = c.in_ok-servers.servers.items in
    let rows = c.in_ok-rows.rows.items in
    let priced = c.in_ok-servers.ensures ∙ ap (λ (ss : List Server). priced_servers price ss) c.servers.ensures.exact in
    (parts-accepted c.args.sheet.now c.args.network.now c.args.counts.now price c.requires.repaired.0 c.version.result servers rows
    c.requires.network c.groups.ensures.lawful c.requires.repaired.1 c.version.ensures priced c.in_ok-rows.ensures).lawful

pub returns-clause-accepted : goal.returns-clause-accepted
returns-clause-accepted c =
    let price = at c.args.prices.now in
    let servers = c.in_ok-servers.servers.items in
    let rows = c.in_ok-rows.rows.items in
    let priced = c.in_ok-servers.ensures ∙ ap (λ (ss : List Server). priced_servers price ss) c.servers.ensures.exact in
    let known : IsAccepted c.args.sheet.now (plan_of_parts c.version.result servers rows) =
    parts-accepted c.args.sheet.now c.args.network.now c.args.counts.now price c.requires.repaired.0 c.version.result servers rows
    c.requires.network c.groups.ensures.lawful c.requires.repaired.1 c.version.ensures priced c.in_ok-rows.ensures in
    subst (λ (plan : PlanParts). IsAccepted c.args.sheet.now plan) (sym c.new.ensures) known
