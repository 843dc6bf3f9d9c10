-- What copying a response to its end does. Our own: the end of a response is where the server ends, as in RFC 9112, section 6.3,
-- with `Connection: close`.
use Rattle.std.specs.Prelude.{◌≡◌, ℕ, ◌-◌, ◌^◌, ◌<◌, min, true, List, length, Option, Result, Ok, Err, OnOk}
use Rattle.std.specs.Io.KnownBytes.{prepend_known, append_known, IsAtEnd}
use Rattle.http_relay_wire.specs.Wires.{Reading, AppendsBeginning}
use Rattle.http_relay_wire.specs.Faults.{after_read_fault, after_write_fault}
use Rattle.http_relay_wire.specs.declared.fault.FaultCounts.{FaultCounts}
use Rattle.http_relay_body.specs.declared.response.CopyFault.{CopyFault}
use Rattle.http_relay_body.specs.declared.response.CopyFault.TheVariants.{NoResponse, CutShort, Client}

-- the answer fits what was read
abbrev pub TellsOf : List ℕ → Result ℕ CopyFault → Type 0
TellsOf text (Ok count) = count ≡ min (length text) (2 ^ 64 - 1)
TellsOf text (Err (NoResponse fault)) = length text ≡ 0
TellsOf text (Err (CutShort fault)) = 0 < length text
TellsOf text (Err (Client fault)) = 0 < length text

-- what went out of what was read: all of it, and only where the client's wire failed a beginning
abbrev pub WentOut : Option (List ℕ) → Option (List ℕ) → List ℕ → Result ℕ CopyFault → Type 0
WentOut before after text (Ok count) = after ≡ append_known before text
WentOut before after text (Err (NoResponse fault)) = after ≡ append_known before text
WentOut before after text (Err (CutShort fault)) = after ≡ append_known before text
WentOut before after text (Err (Client fault)) = AppendsBeginning before after text

-- all that the server sent was read and went out; at a fault, what was read before it
pub record Copied (old new : Reading) (before after : Option (List ℕ)) (answer : Result ℕ CopyFault) : Type 0 where
  pub text : List ℕ
  pub read : old.unread ≡ prepend_known text new.unread
  pub tells : TellsOf text answer
  pub at_end : OnOk answer (IsAtEnd new.unread)
  pub ended : OnOk answer (new.ended ≡ true)
  pub sent : WentOut before after text answer

-- the counts of the server's wire after an answer
abbrev pub server_faults : Result ℕ CopyFault → FaultCounts → FaultCounts
server_faults (Ok count) counts = counts
server_faults (Err (NoResponse fault)) counts = after_read_fault fault counts
server_faults (Err (CutShort fault)) counts = after_read_fault fault counts
server_faults (Err (Client fault)) counts = counts

-- the counts of the client's wire after an answer
abbrev pub client_faults : Result ℕ CopyFault → FaultCounts → FaultCounts
client_faults (Ok count) counts = counts
client_faults (Err (NoResponse fault)) counts = counts
client_faults (Err (CutShort fault)) counts = counts
client_faults (Err (Client fault)) counts = after_write_fault fault counts

-- the number of the fault
abbrev pub fault_number : CopyFault → ℕ
fault_number (NoResponse fault) = 93
fault_number (CutShort fault) = 93
fault_number (Client fault) = 93
