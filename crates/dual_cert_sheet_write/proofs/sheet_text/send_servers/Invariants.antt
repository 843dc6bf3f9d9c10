use Rattle.std.proofs.Common.{map, take}
use Rattle.dual_cert_text.specs.Spellings.{text_of_lines}
use Rattle.dual_cert_sheet.specs.SheetSpellings.{sheet_server_line}
use Rattle.dual_cert_write.specs.Sending.{Sends}
use Rattle.dual_cert_sheet_write.proofs.sheet_text.send_servers.Given as goal

abbrev pub invariant-loop-server : goal.invariant-loop-server
invariant-loop-server g l =
    Sends l.fn.out l.fn.sent l.out l.sent (text_of_lines (map (λ server. sheet_server_line server) (take l.server-index l.servers)))
