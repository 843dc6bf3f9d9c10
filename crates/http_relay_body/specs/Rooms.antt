-- A chunked body on its way from the client through a room to the server. No public clause cites this module.
use Rattle.std.specs.Prelude.{◌≡◌, ◌+◌, ◌<◌, ◌≤◌, ◌⊎◌, ℕ, List, [], ◌++◌, length, take, Option, Result, Ok, Err}
use Rattle.std.specs.Io.KnownBytes.{append_known}
use Rattle.http_relay_wire.specs.Wires.{Reading, AppendsBeginning}
use Rattle.http_relay_body.specs.declared.fault.BodyFault.{BodyFault}
use Rattle.http_relay_body.specs.declared.fault.BodyFault.TheVariants.{Truncated, Client, Server, BadChunk}
use Rattle.http_relay_body.specs.declared.chunks.part.Part.{Part}
use Rattle.http_relay_body.specs.declared.chunks.part.Sight.{Sight}
use Rattle.http_relay_body.specs.declared.chunks.part.Sight.TheVariants.{Whole, Short, Bad}
use Rattle.http_relay_body.specs.Moves.{Taken, HasEnded, Begins, NeverBegins, MayBecome, Answers}
use Rattle.http_relay_body.specs.Parts.{IsPartText, least_behind}

-- what a room holds: bytes that were judged and wait to go out, and those ahead of them, which were taken and not judged yet
pub record RoomView : Type 0 where
  pub judged : List ℕ
  pub ahead : List ℕ

-- where a body stands: the bytes at hand, what can be read of the client, what was written to the server, and the room
pub record Stand : Type 0 where
  pub hand : List ℕ
  pub reading : Reading
  pub written : Option (List ℕ)
  pub room : RoomView

abbrev pub stand : List ℕ → Reading → Option (List ℕ) → RoomView → Stand
stand hand reading written room = record { hand = hand; reading = reading; written = written; room = room }

-- how often bytes can still be taken, at the most
abbrev pub takes_left : Stand → ℕ
takes_left at = length at.hand + at.reading.left

-- bytes were taken, so much of what stood ahead was judged, and what went out is a front of what was judged
pub record Carried (old new : Stand) (done : List ℕ) : Type 0 where
  pub text : List ℕ
  pub out : List ℕ
  pub taken : Taken old.hand new.hand old.reading.unread new.reading.unread text
  pub came : old.room.ahead ++ text ≡ done ++ new.room.ahead
  pub sent : new.written ≡ append_known old.written out
  pub kept : out ++ new.room.judged ≡ old.room.judged ++ done
  pub used : ((text ≡ []) × (takes_left new ≡ takes_left old)) ⊎ (takes_left new < takes_left old)

-- a part was not judged to its end: the fault says why, and a beginning of what was taken went out
pub record Stopped {A : Type 0} (IsPart : A → List ℕ → Type 0) (old new : Stand) (fault : BodyFault) : Type 0 where
  pub text : List ℕ
  pub taken : Taken old.hand new.hand old.reading.unread new.reading.unread text
  pub answers : Answers IsPart (old.room.ahead ++ text) new.hand new.reading (Err fault)
  pub beginning : AppendsBeginning old.written new.written (old.room.judged ++ (old.room.ahead ++ text))

-- a part was judged, or the answer says why not
abbrev pub Passed : {A : Type 0} → (A → List ℕ → Type 0) → Stand → Stand → Result A BodyFault → Type 0
Passed IsPart old new (Ok value) = (done : List ℕ) × IsPart value done × Carried old new done
Passed IsPart old new (Err fault) = Stopped IsPart old new fault

-- why no byte came
abbrev pub NoneCame : List ℕ → Reading → BodyFault → Type 0
NoneCame left reading Truncated = HasEnded left reading
NoneCame left reading (Client fault) = left ≡ []
NoneCame left reading (Server fault) = Unit {0}
NoneCame left reading BadChunk = ⊥

-- bytes were taken, at most so many, or the answer says why none came
abbrev pub TookText : ℕ → List ℕ → List ℕ → Reading → Reading → List ℕ → Type 0
TookText most hand left old new text =
    Taken hand left old.unread new.unread text × (length text ≤ most) × (length left + new.left < length hand + old.left)

-- they stand behind those that filled the front of these bytes
abbrev pub TookBehind : ℕ → ℕ → List ℕ → List ℕ → Reading → Reading → List ℕ → List ℕ → Result ℕ BodyFault → Type 0
TookBehind filled most hand left old new before after (Ok count) =
    (text : List ℕ) × TookText most hand left old new text × (take (filled + count) after ≡ take filled before ++ text) × (filled + count ≤ length before)
TookBehind filled most hand left old new before after (Err fault) = Taken hand left old.unread new.unread [] × NoneCame left new fault

-- they stand behind those that stood in the room
abbrev pub Took : ℕ → List ℕ → List ℕ → Reading → Reading → RoomView → RoomView → Result (Unit {0}) BodyFault → Type 0
Took most hand left old new start end (Ok value) =
    (text : List ℕ) × TookText most hand left old new text × (end ≡ record { judged = start.judged; ahead = start.ahead ++ text })
Took most hand left old new start end (Err fault) = Taken hand left old.unread new.unread [] × NoneCame left new fault

-- a text has grown by at most so many bytes
abbrev pub GrewBy : ℕ → List ℕ → List ℕ → Type 0
GrewBy most old new = (more : List ℕ) × (new ≡ old ++ more) × (length more ≤ most)

-- at most so many bytes more stand ahead, or the answer says why none came
abbrev pub Fetched : ℕ → Stand → Stand → Result (Unit {0}) BodyFault → Type 0
Fetched most old new (Ok value) = Carried old new [] × GrewBy most old.room.ahead new.room.ahead × (takes_left new < takes_left old)
Fetched most old new (Err fault) =
    Taken old.hand new.hand old.reading.unread new.reading.unread [] × AppendsBeginning old.written new.written old.room.judged
    × NoneCame new.hand new.reading fault

-- so many bytes at least must come behind this text, of the part that it begins and of the body behind that
abbrev pub MustFollow : Part → List ℕ → ℕ → Type 0
MustFollow part text least = (value : ℕ) (rest : List ℕ) → IsPartText part value (text ++ rest) → least ≤ length rest + least_behind part value

-- what is seen of a part in this text
abbrev pub Sees : Part → List ℕ → Sight → Type 0
Sees part text (Whole len value) = (len ≤ length text) × IsPartText part value (take len text)
Sees part text (Short least) =
    (¬ Begins (IsPartText part) text) × (length text < 8192) × (0 < least) × MustFollow part text least × MayBecome (IsPartText part) text
Sees part text Bad = NeverBegins (IsPartText part) text
