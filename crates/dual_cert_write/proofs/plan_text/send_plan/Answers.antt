use Rattle.std.proofs.Common.{refl}
use Rattle.dual_cert_text.proofs.PlanLaws.{plan_again}
use Rattle.dual_cert_text.specs.PlanTexts.{plan_of_text}
use Rattle.dual_cert_write.proofs.Lines.{spelling_parts, few_servers, sets_listed}
use Rattle.dual_cert_write.proofs.Sends.{WasSent-four}
use Rattle.dual_cert_write.proofs.plan_text.send_plan.Goals as goal

pub send_rows-sent-requires-clause-few : goal.send_rows-sent-requires-clause-few
send_rows-sent-requires-clause-few g c = rw c.servers-2.ensures.exact (few_servers c.args.plan.now c.rows.ensures.lawful)

pub send_rows-sent-requires-clause-listed : goal.send_rows-sent-requires-clause-listed
send_rows-sent-requires-clause-listed g c = rw (c.servers-2.ensures.exact, c.rows-2.ensures.exact) (sets_listed c.args.plan.now c.rows.ensures.lawful)

pub returns-clause-sent : goal.returns-clause-sent
returns-clause-sent g c =
    let costs = rw c.rows.ensures.exact at c.needs_costs-has_costs.ensures in
    let heading = rw (costs, c.version.ensures) at c.send_heading-sent.ensures in
    let servers = rw c.servers.ensures.exact at c.send_servers-sent.ensures in
    let rows = rw (costs, c.servers-2.ensures.exact, c.rows-2.ensures.exact) at c.send_rows-sent.ensures in
    rw spelling_parts (WasSent-four _ _ _ _ _ _ _ _ _ _ _ _ _ heading servers rows c.send.ensures)

pub returns-clause-read_back : goal.returns-clause-read_back
unfolding plan_of_text
returns-clause-read_back g c = rw (plan_again c.args.plan.now c.rows.ensures.lawful) refl
