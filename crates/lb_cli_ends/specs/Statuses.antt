-- The program's exit status.
use Rattle.std.specs.Prelude.{ℕ, Bool, true, false, Result, Ok, Err}
use Rattle.lb_cli_ends.specs.declared.job_error.JobError.{JobError}

-- 0 where the job was done and its answer is yes; 1 where that is no, and where the job was not done
abbrev pub status_of : Result Bool JobError → ℕ
status_of (Ok true) = 0
status_of (Ok false) = 1
status_of (Err error) = 1
