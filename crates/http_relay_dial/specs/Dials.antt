-- What is known of connections to servers: how each was dialled, and how it stood when it was given back. Our own words.
use Rattle.std.specs.Prelude.{◌≡◌, ◌≤◌, ℕ, false, List, [], length, take, Option, Result, Ok, Err, IfSome}
use Rattle.http_relay_wire.specs.Wires.{Reading}
use Rattle.http_relay_wire.specs.Faults.{no_faults, one_more}
use Rattle.http_relay_wire.specs.declared.fault.FaultCounts.{FaultCounts}
use Rattle.http_relay_wire.specs.declared.fault.WireFault.{WireFault}
use Rattle.http_relay_dial.specs.declared.endpoint.Endpoint.{Endpoint}
use Rattle.http_relay_dial.specs.declared.endpoint.Limits.{Limits}

-- a dial: the endpoint, the limits, and what can be read of the connection, or why there is none
pub record Dial : Type 0 where
  pub endpoint : Endpoint
  pub limits : Limits
  pub answer : Result Reading WireFault

-- a connection at one moment: what was written to it, what can still be read, and how often it has failed
pub record Talk : Type 0 where
  pub written : Option (List ℕ)
  pub reading : Reading
  pub faults : FaultCounts

-- how the connection stands, by what its wire tells
abbrev pub talk_of : {W : Type 0} → (W → Option (List ℕ)) → (W → Reading) → (W → FaultCounts) → W → Talk
talk_of written reading faults wire = record { written = written wire; reading = reading wire; faults = faults wire }

-- what can be read where the dial succeeded
abbrev pub readable : {W : Type 0} → (W → Reading) → Result W WireFault → Result Reading WireFault
readable reading (Ok wire) = Ok (reading wire)
readable reading (Err fault) = Err fault

-- a dial with this answer: a connection, which has taken so many of the first bytes, or why there is none
abbrev pub dial_of : {W : Type 0} → Endpoint → Limits → (W → Reading) → Result (W × ℕ) WireFault → Dial
dial_of endpoint limits reading answer =
    record { endpoint = endpoint; limits = limits; answer = readable (λ dialled. reading dialled.0) answer }

-- the count of failures after a dial: one more where it failed, up to 2^64 - 1
abbrev pub after_dial : {W : Type 0} → Result W WireFault → ℕ → ℕ
after_dial (Ok wire) count = count
after_dial (Err fault) count = one_more count

-- so many of these bytes were written, and nothing else; nothing was read yet, and nothing has failed
pub record HasTaken (bytes : List ℕ) (count : ℕ) (talk : Talk) : Type 0 where
  pub within : count ≤ length bytes
  pub written : IfSome talk.written (λ all. all ≡ take count bytes)
  pub lasts : talk.reading.ended ≡ false
  pub unfailed : talk.faults ≡ no_faults

-- nothing was written or read yet, and nothing has failed
pub record IsFresh (talk : Talk) : Type 0 where
  pub unwritten : IfSome talk.written (λ bytes. bytes ≡ [])
  pub lasts : talk.reading.ended ≡ false
  pub unfailed : talk.faults ≡ no_faults
