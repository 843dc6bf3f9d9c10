-- What the program is to exit with where its words named no job.
use Rattle.std.specs.Prelude.{ℕ}
use Rattle.clap.specs.declared.error.kind.ErrorKind.{ErrorKind}
use Rattle.clap.specs.declared.error.kind.ErrorKind.TheVariants.{DisplayHelp, OutOfMemory}

-- 0 for help, 1 where memory ran out, and 2 for wrong words
abbrev pub exit_status_of : ErrorKind → ℕ
exit_status_of DisplayHelp = 0
exit_status_of OutOfMemory = 1
exit_status_of _ = 2
