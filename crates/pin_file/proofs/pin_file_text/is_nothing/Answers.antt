use Rattle.std.proofs.Common.{sym, ◌∙◌}
use Rattle.dual_cert_text.proofs.Bodies.{is_nothing-parts}
use Rattle.pin_file.proofs.pin_file_text.is_nothing.Goals as goal

pub returns : goal.returns
returns c = c.is_empty.ensures ∙ sym (is_nothing-parts c.args.rest.now)
