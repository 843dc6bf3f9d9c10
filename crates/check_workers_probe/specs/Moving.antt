-- What reading does for a probe whose request is sent. Our own.
use Rattle.std.specs.Prelude.{◌≡◌, ℕ, Bool, List, [], ◌++◌, Option, None}
use Rattle.std.specs.Io.KnownBytes.{prepend_known}
use Rattle.http_relay_wire.specs.Wires.{Reading}
use Rattle.http_relay_wire.specs.declared.fault.FaultCounts.{FaultCounts}
use Rattle.check_workers_probe.specs.Probes.{Answers}

-- what had come, and now has, and why the answer is so
pub record Heard (came new : List ℕ) (before after : Reading) (faults counted : FaultCounts) (answer : Option Bool) : Type 0 where
  pub text : List ℕ
  pub came_is : new ≡ came ++ text
  pub read : before.unread ≡ prepend_known text after.unread
  pub answers : Answers answer (record { request = None; unsent = []; came = new }) after faults counted
