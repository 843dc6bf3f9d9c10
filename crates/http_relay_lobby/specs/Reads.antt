-- What reading a client's connection adds to what was read of it before. Our own words; what a stream gives is stated as std states it of its
-- readers: where it is known.
use Rattle.std.specs.Prelude.{◌≡◌, ℕ, List, ◌++◌, Option, ⊤}
use Rattle.std.specs.Io.KnownBytes.{Consumes}
use Rattle.http_relay_lobby.specs.declared.arrival.Arrival.{Arrival}
use Rattle.http_relay_lobby.specs.declared.guest.Heard.{Heard}
use Rattle.http_relay_lobby.specs.declared.guest.Heard.TheVariants as heard
use Rattle.http_relay_lobby.specs.declared.guest.Step.{Step}
use Rattle.http_relay_lobby.specs.declared.guest.Step.TheVariants as step

-- the same connection, of which these bytes more were read from its stream
pub record Grown {S : Type 0} (bytes : List ℕ) (old new : Arrival S) : Type 0 where
  pub head : new.head.items ≡ old.head.items ++ bytes
  pub stream : new.stream ≡ old.stream
  pub source : new.source ≡ old.source
  pub frontend : new.frontend ≡ old.frontend

-- the same client's connection, whose head has grown by the bytes that its stream has given, and by no others
pub record ReadOn {S : Type 0} (remaining : S → Option (List ℕ)) (old new : Arrival S) : Type 0 where
  pub bytes : List ℕ
  pub head : new.head.items ≡ old.head.items ++ bytes
  pub given : Consumes (remaining old.stream) (remaining new.stream) bytes
  pub source : new.source ≡ old.source
  pub frontend : new.frontend ≡ old.frontend

-- of a connection that is still there after a read, this is so
abbrev pub StepIs : {S : Type 0} → (Arrival S → Type 0) → Step S → Type 0
StepIs P (step.Again guest) = P guest.arrival
StepIs P (step.Waits guest) = P guest.arrival
StepIs P (step.Leaves arrival) = P arrival
StepIs P (step.Lost stream) = ⊤

-- the same after all reads
abbrev pub HeardIs : {S : Type 0} → (Arrival S → Type 0) → Heard S → Type 0
HeardIs P (heard.Stays guest) = P guest.arrival
HeardIs P (heard.Leaves arrival) = P arrival
HeardIs P (heard.Lost stream) = ⊤
