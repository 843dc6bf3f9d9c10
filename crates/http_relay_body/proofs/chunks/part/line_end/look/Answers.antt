use Rattle.std.proofs.Common.{arith}
use Rattle.std.proofs.lemmas.Grind.{common_steps}
use Rattle.http_relay_body.proofs.Sights.{end_unbegun, end_begun}
use Rattle.http_relay_body.proofs.chunks.part.line_end.look.Goals as goal

pub returns-then-is_empty : goal.returns-then-is_empty
returns-then-is_empty c = end_unbegun c.args.text.now (grind (arith, common_steps, c.if-is_empty.ensures, c.if-is_empty.true))

pub returns-then-text-eq1 : goal.returns-then-text-eq1
returns-then-text-eq1 c = end_begun c.args.text.now c.if-text-eq1.true c.if-text-ne13.false
