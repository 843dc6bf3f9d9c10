use Rattle.dual_cert_sheet.specs.SheetSpellings.{sheet_spelling}
use Rattle.command_socket_serve.proofs.Printings.{prints_piece}
use Rattle.command_socket_serve.proofs.sheets.print_sheet.Goals as goal

pub returns : goal.returns
returns g c =
    let text = sheet_spelling c.args.sheet.now in
    rw c.in_ok-sent.was
    (prints_piece c.args.out.now c.write_sheet.new.out c.write_sheet.result text c.write_sheet.ensures.whole c.write_sheet.ensures.failed c.write_sheet.ensures.front)
