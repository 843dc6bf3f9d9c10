use Rattle.std.proofs.lemmas.List.{map-id}
use Rattle.dual_cert_write.proofs.Lines.{row_line_parts}
use Rattle.dual_cert_write.proofs.Sends.{Sends-then}
use Rattle.dual_cert_write.proofs.plan_text.send_row.Goals as goal

pub returns : goal.returns
returns g c =
    let same = map-id c.args.servers.now in
    let place = rw same at c.place_word-place.ensures in
    let new_place = rw same at c.place_word-new_place.ensures in
    let front = rw (c.as_bytes-count.ensures.value, c.format.ensures.text, place, new_place) at c.send_words-sent.ensures in
    let behind = rw same at c.send_line_end.ensures in
    rw row_line_parts (Sends-then _ _ _ _ _ _ _ _ front behind)
