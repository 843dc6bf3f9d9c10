use Rattle.std.proofs.Common.{◌<◌, length, arith}
use Rattle.std.proofs.lemmas.Grind.{common_steps}
use Rattle.http_relay_body.proofs.Cuts.{needs_all, needs_feed, needs_end}
use Rattle.http_relay_body.proofs.chunks.part.size_line.needs.Goals as goal

pub returns-then-is_empty-clause-needs : goal.returns-then-is_empty-clause-needs
returns-then-is_empty-clause-needs c = needs_all c.args.text.now (grind (arith, common_steps, c.if-is_empty.ensures, c.if-is_empty.true))

pub returns-then-text-eq13-clause-needs : goal.returns-then-text-eq13-clause-needs
returns-then-text-eq13-clause-needs c =
    let begun : 0 < length c.args.text.now = grind (arith, common_steps, c.if-is_empty.ensures, c.if-is_empty.false) in
    needs_feed c.args.text.now c.requires.none c.requires.may begun c.if-text-eq13.true

pub returns-clause-needs : goal.returns-clause-needs
returns-clause-needs c =
    let begun : 0 < length c.args.text.now = grind (arith, common_steps, c.if-is_empty.ensures, c.if-is_empty.false) in
    needs_end c.args.text.now c.requires.none c.requires.may begun c.if-text-eq13.false
