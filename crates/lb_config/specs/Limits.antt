-- Limits of times, in milliseconds: HAProxy Configuration Manual 2.8, section 4.2 (`timeout`). Our own: a time that isn't said, or
-- is 0, is no limit; without `timeout queue` the time of a dial limits the queue too, and 0 there lets nobody wait; `timeout check`
-- limits a whole check, and else `inter` does.
use Rattle.std.specs.Prelude.{ℕ, ◌==◌, Option, Some, None, if◌then◌else◌}
use Rattle.std.specs.Option.{option_or}
use Rattle.lb_config_values.specs.declared.timeouts.Timeouts.{Timeouts}

abbrev pub limit_of : Option ℕ → Option ℕ
limit_of None = None
limit_of (Some millis) = if millis == 0 then None else Some millis

-- how long a request waits for a connection
abbrev pub queue_limit : Timeouts → Option ℕ
queue_limit times = option_or times.queue (limit_of times.connect)

-- how long one check of a server with this `inter` may take
abbrev pub probe_limit : Timeouts → ℕ → Option ℕ
probe_limit times interval = option_or (limit_of times.check) (limit_of (Some interval))
