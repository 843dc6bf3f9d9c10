use Rattle.dual_cert_text.specs.Spellings.{heading_lines}
use Rattle.dual_cert_write.proofs.Lines.{text_of_two}
use Rattle.dual_cert_write.proofs.Sends.{Sends-then}
use Rattle.dual_cert_write.proofs.words.send_heading.Goals as goal

pub returns : goal.returns
unfolding heading_lines
returns g c =
    let first = rw c.form_word.ensures at c.send_line-sent.ensures in
    let second = rw (c.as_bytes.ensures.value, c.format.ensures.text) at c.send_line.ensures in
    rw text_of_two (Sends-then _ _ _ _ _ _ _ _ first second)
