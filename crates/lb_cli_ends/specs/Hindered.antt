-- How a job ends that is not done: where its clauses say what went out before.
use Rattle.std.specs.Prelude.{Result, IsErrOf}
use Rattle.lb_cli_ends.specs.declared.job_error.JobError.{JobError}
use Rattle.lb_cli_ends.specs.declared.job_error.JobError.TheVariants.{CannotRead, OutOfMemory, CannotWrite}

-- the fact, where the job has an answer that can't be written
abbrev pub OnCannotWrite : {A : Type 0} → Result A JobError → Type 0 → Type 0
OnCannotWrite result P = IsErrOf result CannotWrite → P

-- the fact, where the job comes to no answer: its file can't be read, or there is not memory enough
abbrev pub OnNoAnswer : {A : Type 0} → Result A JobError → Type 0 → Type 0
OnNoAnswer result P = (IsErrOf result CannotRead → P) × (IsErrOf result OutOfMemory → P)
