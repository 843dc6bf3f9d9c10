-- The requests that a worker keeps while they wait, each under a key. Our own words.
use Rattle.std.specs.Prelude.{ℕ, ◌<◌, Some, None, Option, IfSome}
use Rattle.http_relay_serve.specs.Steps.{visit_of}
use Rattle.http_relay_serve.specs.declared.underway.Underway.{Underway}
use Rattle.http_relay_talk.specs.Visits.{awaits}
use Rattle.http_relay_talk.specs.declared.underway.Awaits.{Awaits}
use Rattle.keyed_values.specs.Keys.{Keyed, at}

-- the requests by their keys, and how many backends there are
pub record Requests (S W C : Type 0) : Type 0 where
  pub kept : Keyed (Underway S W C)
  pub backends : ℕ

-- each waits at one of that many backends
abbrev pub AreWithin : {S W C : Type 0} → ℕ → Keyed (Underway S W C) → Type 0
AreWithin backends kept = (key : ℕ) → IfSome (at kept key) (λ underway. underway.backend < backends)

-- what the request waits for, if there is one
abbrev pub awaits_at : {S W C : Type 0} → Option (Underway S W C) → Option Awaits
awaits_at None = None
awaits_at (Some underway) = Some (awaits (visit_of underway.stage))
