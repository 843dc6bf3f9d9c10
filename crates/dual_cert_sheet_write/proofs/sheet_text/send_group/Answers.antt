use Rattle.dual_cert_sheet_write.proofs.SheetLines.{group_line_parts}
use Rattle.dual_cert_write.proofs.Sends.{Sends-then}
use Rattle.dual_cert_sheet_write.proofs.sheet_text.send_group.Goals as goal

pub returns : goal.returns
returns g c =
    let front = rw (c.as_bytes-count.ensures.value, c.format.ensures.text, c.place_word-place.ensures) at c.send_words-sent.ensures in
    rw group_line_parts (Sends-then _ _ _ _ _ _ _ _ front c.send_line_end.ensures)
