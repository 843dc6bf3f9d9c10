-- A head, and the front of its body in the same writes. No public clause cites this module.
use Rattle.std.specs.Prelude.{◌≡◌, ◌≤◌, ℕ, List, length, take, Result, Ok, Err}
use Rattle.http_relay_body.specs.Bodies.{IsFront}
use Rattle.http_relay_body.specs.declared.fault.BodyFault.TheVariants.{Truncated, Client, Server, BadChunk}
use Rattle.http_relay_body.specs.declared.front.BodyFront.{BodyFront}
use Rattle.http_relay_dial.specs.Dials.{Talk}
use Rattle.http_relay_exchange.specs.Exchanges.{wrote, FailsToWrite}
use Rattle.http_relay_exchange.specs.Requests.{OutgoingView}
use Rattle.http_relay_exchange.specs.declared.fault.SendFault.{SendFault}
use Rattle.http_relay_exchange.specs.declared.fault.SendFault.TheVariants.{Continue, Head, Body}

-- a head was written, and behind it these bytes of its body; or the answer says in which of them a write failed
abbrev pub SendsBoth : List ℕ → List ℕ → Talk → Talk → Result (Unit {0}) SendFault → Type 0
SendsBoth head front old new (Ok value) = new ≡ wrote (wrote old head) front
SendsBoth head front old new (Err (Continue fault)) = ⊥
SendsBoth head front old new (Err (Head fault)) = FailsToWrite head fault old new
SendsBoth head front old new (Err (Body Truncated)) = ⊥
SendsBoth head front old new (Err (Body BadChunk)) = ⊥
SendsBoth head front old new (Err (Body (Client fault))) = ⊥
SendsBoth head front old new (Err (Body (Server fault))) = FailsToWrite front fault (wrote old head) new

-- the head was written, and behind it the front of the body that the answer tells; or the answer says in what a write failed
abbrev pub SendsHead : OutgoingView → Talk → Talk → Result BodyFront SendFault → Type 0
SendsHead request old new (Ok front) =
    (front.len ≤ length request.behind) × IsFront request.kind (take front.len request.behind) front.rest
    × (new ≡ wrote (wrote old request.head) (take front.len request.behind))
SendsHead request old new (Err fault) = (len : ℕ) × SendsBoth request.head (take len request.behind) old new (Err fault)
