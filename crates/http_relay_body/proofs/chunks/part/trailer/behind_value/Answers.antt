use Rattle.std.proofs.Common.{◌∙◌, sym}
use Rattle.http_relay_body.proofs.Walks.{value_return, value_feed, value_more, value_never}
use Rattle.http_relay_body.proofs.chunks.part.trailer.behind_value.Goals as goal

pub returns-then-byte-eq13 : goal.returns-then-byte-eq13
returns-then-byte-eq13 c = value_return c.args.byte c.if-byte-eq13.true

pub returns-then-byte-eq10 : goal.returns-then-byte-eq10
returns-then-byte-eq10 c = value_feed c.args.byte c.if-byte-eq10.true

pub returns-then-is_header_value_token : goal.returns-then-is_header_value_token
returns-then-is_header_value_token c = value_more c.args.byte (sym c.is_header_value_token.ensures ∙ c.if-is_header_value_token.true)

pub returns : goal.returns
returns c = value_never c.args.byte c.if-byte-eq13.false c.if-byte-eq10.false (sym c.is_header_value_token.ensures ∙ c.if-is_header_value_token.false)
