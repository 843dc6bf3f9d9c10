use Rattle.std.proofs.Common.{arith}
use Rattle.std.proofs.lemmas.Bool.Decides.{nat_tests}
use Rattle.std.proofs.lemmas.Str.{is_utf8-from_IsUtf8, IsUtf8-from_is_utf8}
use Rattle.lb_config_words.specs.Texts.{text_fault}
use Rattle.lb_config_words.proofs.text.text_fault.Goals as goal

pub returns-in_err-error-clause-exact : goal.returns-in_err-error-clause-exact
unfolding text_fault
returns-in_err-error-clause-exact c = grind (arith, nat_tests, is_utf8-from_IsUtf8)

pub returns-clause-exact : goal.returns-clause-exact
unfolding text_fault
returns-clause-exact c = grind (arith, nat_tests, IsUtf8-from_is_utf8)
