use Rattle.std.proofs.Common.{◌∙◌, sym}
use Rattle.http_relay_body.proofs.Walks.{name_colon, name_token, name_never}
use Rattle.http_relay_body.proofs.chunks.part.trailer.behind_name.Goals as goal

pub returns-then-byte-eq58 : goal.returns-then-byte-eq58
returns-then-byte-eq58 c = name_colon c.args.byte c.if-byte-eq58.true

pub returns-then-is_header_name_token : goal.returns-then-is_header_name_token
returns-then-is_header_name_token c = name_token c.args.byte (sym c.is_header_name_token.ensures ∙ c.if-is_header_name_token.true)

pub returns : goal.returns
returns c = name_never c.args.byte c.if-byte-eq58.false (sym c.is_header_name_token.ensures ∙ c.if-is_header_name_token.false)
