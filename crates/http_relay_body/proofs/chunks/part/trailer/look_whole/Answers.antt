use Rattle.std.proofs.Common.{inl, inr, arith}
use Rattle.http_relay_body.proofs.Walks.{whole_seen, whole_over}
use Rattle.http_relay_body.proofs.chunks.part.trailer.look_whole.Goals.{else-bytes-le-MOST_TRAILER_BYTES-via-then-bytes-le-MOST_TRAILER_BYTES+else-fields-le-MOST_FIELDS, else-bytes-le-MOST_TRAILER_BYTES-via-else-bytes-le-MOST_TRAILER_BYTES}
use Rattle.http_relay_body.proofs.chunks.part.trailer.look_whole.Goals as goal

pub returns-then-fields-le-MOST_FIELDS : goal.returns-then-fields-le-MOST_FIELDS
returns-then-fields-le-MOST_FIELDS c =
    whole_seen c.args.text.now c.args.bytes c.args.fields c.requires.within c.requires.section c.if-bytes-le-MOST_TRAILER_BYTES.true c.if-fields-le-MOST_FIELDS.true

pub returns : goal.returns
returns c =
    whole_over c.args.text.now c.args.bytes c.args.fields c.requires.within c.requires.section
    (elim c.else-bytes-le-MOST_TRAILER_BYTES.branch [
      | else-bytes-le-MOST_TRAILER_BYTES-via-then-bytes-le-MOST_TRAILER_BYTES+else-fields-le-MOST_FIELDS w ↦ inr (omega (arith, w.if-fields-le-MOST_FIELDS.false))
      | else-bytes-le-MOST_TRAILER_BYTES-via-else-bytes-le-MOST_TRAILER_BYTES w ↦ inl (omega (arith, w.if-bytes-le-MOST_TRAILER_BYTES.false))
    ])
