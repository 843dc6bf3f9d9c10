use Rattle.std.proofs.Common.{refl}
use Rattle.dual_cert_sheet.proofs.SheetLaws.{sheet_again}
use Rattle.dual_cert_sheet.specs.SheetTexts.{sheet_of_text}
use Rattle.dual_cert_sheet_write.proofs.SheetLines.{sheet_spelling_parts, few_servers, sets_listed}
use Rattle.dual_cert_write.proofs.Sends.{WasSent-four}
use Rattle.dual_cert_sheet_write.proofs.sheet_text.send_sheet.Goals as goal

pub send_groups-sent-requires-clause-few : goal.send_groups-sent-requires-clause-few
send_groups-sent-requires-clause-few g c = rw c.servers-2.ensures.exact (few_servers c.args.sheet.now c.groups.ensures.lawful)

pub send_groups-sent-requires-clause-listed : goal.send_groups-sent-requires-clause-listed
send_groups-sent-requires-clause-listed g c = rw (c.servers-2.ensures.exact, c.groups-2.ensures.exact) (sets_listed c.args.sheet.now c.groups.ensures.lawful)

pub returns-clause-sent : goal.returns-clause-sent
returns-clause-sent g c =
    let costs = rw c.groups.ensures.exact at c.needs_costs-has_costs.ensures in
    let heading = rw (costs, c.version.ensures) at c.send_heading-sent.ensures in
    let servers = rw c.servers.ensures.exact at c.send_servers-sent.ensures in
    let groups = rw (costs, c.servers-2.ensures.exact, c.groups-2.ensures.exact) at c.send_groups-sent.ensures in
    rw sheet_spelling_parts (WasSent-four _ _ _ _ _ _ _ _ _ _ _ _ _ heading servers groups c.send.ensures)

pub returns-clause-read_back : goal.returns-clause-read_back
unfolding sheet_of_text
returns-clause-read_back g c = rw (sheet_again c.args.sheet.now c.groups.ensures.lawful) refl
