use Rattle.dual_cert_sheet.specs.SheetSpellings.{sheet_server_line}
use Rattle.dual_cert_sheet_write.proofs.sheet_text.send_server.Goals as goal

pub returns-in_default : goal.returns-in_default
unfolding sheet_server_line
returns-in_default g c =
    let line = rw c.name-name.ensures at c.send_line.ensures in
    rw c.in_default.is line

pub returns : goal.returns
unfolding sheet_server_line
returns g c =
    let line = rw (c.name-name.ensures, c.as_bytes-capacity.ensures.value, c.format.ensures.text) at c.send_line-2.ensures in
    rw c.in-Some.is line
