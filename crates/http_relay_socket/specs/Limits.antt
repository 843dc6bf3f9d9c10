-- How long a call of a stream may wait. Our own: a time of 0 is no limit, as in the configuration's times.
use Rattle.std.specs.Prelude.{ℕ, ◌*◌, ◌==◌, if◌then◌else◌, Option, Some, None}

-- the nanoseconds of a limit in milliseconds
abbrev pub limit_nanos : Option ℕ → Option ℕ
limit_nanos None = None
limit_nanos (Some millis) = if millis == 0 then None else Some (millis * 1000000)
