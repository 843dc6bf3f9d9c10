use Rattle.std.proofs.Common.{inl, inr, arith}
use Rattle.http_relay_body.proofs.Walks.{short_seen, short_over}
use Rattle.http_relay_body.proofs.chunks.part.trailer.look_short.Goals.{else-text-bytes-le-MOST_TRAILER_BYTES-via-then-text-bytes-le-MOST_TRAILER_BYTES+else-fields-more_fields-le-MOST_FIELDS, else-text-bytes-le-MOST_TRAILER_BYTES-via-else-text-bytes-le-MOST_TRAILER_BYTES}
use Rattle.http_relay_body.proofs.chunks.part.trailer.look_short.Goals as goal

pub returns-then-fields-more_fields-le-MOST_FIELDS : goal.returns-then-fields-more_fields-le-MOST_FIELDS
returns-then-fields-more_fields-le-MOST_FIELDS c =
    let least = c.shortest-bytes in
    short_seen c.args.place c.args.text.now c.args.fields least.result.0 least.result.1 c.requires.stands least.ensures.shortest least.ensures.some
    c.if-text-bytes-le-MOST_TRAILER_BYTES.true c.if-fields-more_fields-le-MOST_FIELDS.true

pub returns : goal.returns
returns c =
    let least = c.shortest-bytes in
    short_over c.args.place c.args.text.now c.args.fields least.result.0 least.result.1 c.requires.stands least.ensures.shortest
    (elim c.else-text-bytes-le-MOST_TRAILER_BYTES.branch [
      | else-text-bytes-le-MOST_TRAILER_BYTES-via-then-text-bytes-le-MOST_TRAILER_BYTES+else-fields-more_fields-le-MOST_FIELDS w ↦ inr (omega (arith, w.if-fields-more_fields-le-MOST_FIELDS.false))
      | else-text-bytes-le-MOST_TRAILER_BYTES-via-else-text-bytes-le-MOST_TRAILER_BYTES w ↦ inl (omega (arith, w.if-text-bytes-le-MOST_TRAILER_BYTES.false))
    ])
