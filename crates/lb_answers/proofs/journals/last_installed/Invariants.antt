use Rattle.std.proofs.Common.{◌≡◌, take}
use Rattle.std.specs.Option.{option_copied}
use Rattle.lb_answers.specs.Journals.{last_installed}
use Rattle.lb_answers.proofs.journals.last_installed.Given as goal

abbrev pub invariant-loop-entry : goal.invariant-loop-entry
invariant-loop-entry l = option_copied l.last ≡ last_installed (take l.entry-index l.entries)
