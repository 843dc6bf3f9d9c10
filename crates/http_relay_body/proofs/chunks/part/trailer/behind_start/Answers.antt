use Rattle.std.proofs.Common.{◌∙◌, sym}
use Rattle.http_relay_body.proofs.Walks.{start_return, start_feed, start_token, start_never}
use Rattle.http_relay_body.proofs.chunks.part.trailer.behind_start.Goals as goal

pub returns-then-byte-eq13 : goal.returns-then-byte-eq13
returns-then-byte-eq13 c = start_return c.args.byte c.if-byte-eq13.true

pub returns-then-byte-eq10 : goal.returns-then-byte-eq10
returns-then-byte-eq10 c = start_feed c.args.byte c.if-byte-eq10.true

pub returns-then-is_header_name_token : goal.returns-then-is_header_name_token
returns-then-is_header_name_token c = start_token c.args.byte (sym c.is_header_name_token.ensures ∙ c.if-is_header_name_token.true)

pub returns : goal.returns
returns c = start_never c.args.byte c.if-byte-eq13.false c.if-byte-eq10.false (sym c.is_header_name_token.ensures ∙ c.if-is_header_name_token.false)
