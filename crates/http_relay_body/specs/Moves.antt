-- What moving bytes from the client to the server does, and what a fault says. Our own words.
use Rattle.std.specs.Prelude.{◌≡◌, ◌<◌, ◌≤◌, ◌⊎◌, ℕ, true, List, [], ◌++◌, length, Option, Result, Ok, Err, OnOk, OnErr}
use Rattle.std.specs.Io.KnownBytes.{prepend_known, append_known, IsAtEnd}
use Rattle.http_relay_wire.specs.Wires.{Reading, AppendsBeginning}
use Rattle.http_relay_wire.specs.Faults.{after_read_fault, after_write_fault}
use Rattle.http_relay_wire.specs.declared.fault.FaultCounts.{FaultCounts}
use Rattle.http_relay_body.specs.declared.fault.BodyFault.{BodyFault}
use Rattle.http_relay_body.specs.declared.fault.BodyFault.TheVariants.{Truncated, Client, Server, BadChunk}

-- The text was taken from the bytes at hand and then from a wire's, and left is still at hand: no byte is read from the wire
-- while there is one at hand, and no byte is read that isn't taken.
pub record Taken (hand left : List ℕ) (old new : Option (List ℕ)) (text : List ℕ) : Type 0 where
  pub more : List ℕ
  pub read : old ≡ prepend_known more new
  pub parted : hand ++ more ≡ text ++ left
  pub in_turn : (more ≡ []) ⊎ (left ≡ [])

-- the text begins with such a part
abbrev pub Begins : {A : Type 0} → (A → List ℕ → Type 0) → List ℕ → Type 0
Begins {A} IsPart text = (value : A) × (front : List ℕ) × (rest : List ℕ) × IsPart value front × (text ≡ front ++ rest)

-- it doesn't, whatever follows
abbrev pub NeverBegins : {A : Type 0} → (A → List ℕ → Type 0) → List ℕ → Type 0
NeverBegins IsPart text = (more : List ℕ) → ¬ Begins IsPart (text ++ more)

-- with some bytes behind it the text is such a part
abbrev pub MayBecome : {A : Type 0} → (A → List ℕ → Type 0) → List ℕ → Type 0
MayBecome {A} IsPart text = (value : A) × (more : List ℕ) × IsPart value (text ++ more)

-- the client has ended: no byte is left at hand or to be read, and a read has told so
abbrev pub HasEnded : List ℕ → Reading → Type 0
HasEnded left reading = (left ≡ []) × IsAtEnd reading.unread × (reading.ended ≡ true)

-- What an answer says of the text that was taken, of what is left at hand, and of the wire behind it. The client is at fault only
-- where all that was at hand was taken, no part stood there yet, and one may still come: behind a part nothing is waited for, and
-- neither is behind bytes that are a part's beginning no more.
abbrev pub Answers : {A : Type 0} → (A → List ℕ → Type 0) → List ℕ → List ℕ → Reading → Result A BodyFault → Type 0
Answers IsPart text left reading (Ok value) = IsPart value text
Answers IsPart text left reading (Err Truncated) = HasEnded left reading × ¬ Begins IsPart text × MayBecome IsPart text
Answers IsPart text left reading (Err BadChunk) = NeverBegins IsPart text
Answers IsPart text left reading (Err (Client fault)) = (left ≡ []) × ¬ Begins IsPart text × MayBecome IsPart text
Answers IsPart text left reading (Err (Server fault)) = Unit {0}

-- a part was taken and written, or a beginning of what was taken
pub record Moved {A : Type 0} (IsPart : A → List ℕ → Type 0) (hand left : List ℕ) (old new : Reading)
    (before after : Option (List ℕ)) (answer : Result A BodyFault) : Type 0 where
  pub text : List ℕ
  pub taken : Taken hand left old.unread new.unread text
  pub answers : Answers IsPart text left new answer
  pub sent : OnOk answer (after ≡ append_known before text)
  pub beginning : OnErr answer (AppendsBeginning before after text)

-- the counts of the client's wire after an answer
abbrev pub client_faults : {A : Type 0} → Result A BodyFault → FaultCounts → FaultCounts
client_faults (Ok value) counts = counts
client_faults (Err Truncated) counts = counts
client_faults (Err BadChunk) counts = counts
client_faults (Err (Client fault)) counts = after_read_fault fault counts
client_faults (Err (Server fault)) counts = counts

-- the counts of the server's wire after an answer
abbrev pub server_faults : {A : Type 0} → Result A BodyFault → FaultCounts → FaultCounts
server_faults (Ok value) counts = counts
server_faults (Err Truncated) counts = counts
server_faults (Err BadChunk) counts = counts
server_faults (Err (Client fault)) counts = counts
server_faults (Err (Server fault)) counts = after_write_fault fault counts

-- the fault is the server's
abbrev pub IsServerFault : {A : Type 0} → Result A BodyFault → Type 0
IsServerFault (Ok value) = Unit {0}
IsServerFault (Err Truncated) = ⊥
IsServerFault (Err BadChunk) = ⊥
IsServerFault (Err (Client fault)) = ⊥
IsServerFault (Err (Server fault)) = Unit {0}

-- so many bytes
abbrev pub IsLong : ℕ → {A : Type 0} → A → List ℕ → Type 0
IsLong count _ text = length text ≡ count

-- some bytes and at most so many; the answer says how many
abbrev pub IsSome : ℕ → ℕ → List ℕ → Type 0
IsSome most count text = (length text ≡ count) × (0 < count) × (count ≤ most)

-- the number of the fault
abbrev pub fault_number : BodyFault → ℕ
fault_number Truncated = 92
fault_number (Client fault) = 93
fault_number (Server fault) = 93
fault_number BadChunk = 94
