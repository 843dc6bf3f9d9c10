-- Which probes are under way. Our own.
use Rattle.std.specs.Prelude.{◌≡◌, ℕ, Bool, true, false, List, Option, Some, None, slice_get, slice_set}
use Rattle.check_workers_round.specs.declared.probes.Probed.{Probed}

-- a probe of the server with this answer
abbrev pub probed : ℕ → Bool → Probed
probed server ok = record { server = server; ok = ok }

-- the probe was under way and no longer is; or none has ended
abbrev pub Ends : List Bool → List Bool → Option Probed → Type 0
Ends before after (Some probe) = (slice_get before probe.server ≡ Some true) × (after ≡ slice_set before probe.server false)
Ends before after None = after ≡ before
