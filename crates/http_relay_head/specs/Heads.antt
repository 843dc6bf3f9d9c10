-- When bytes begin with the head of a request, and what a reader of heads answers: RFC 9112, sections 2 to 5, as httparse reads
-- them. Our own: the limits, and which heads are refused.
use Rattle.std.specs.Prelude.{◌≡◌, ◌⊎◌, ℕ, ◌≤◌, ◌<◌, ◌==◌, true, List, map, ◌++◌, length, Option, Some, None, Result, Ok, Err, if◌then◌else◌}
use Rattle.std.specs.Io.KnownBytes.{prepend_known, IsAtEnd}
use Rattle.std.specs.declared.net.ipv4_addr.Ipv4Addr.{Ipv4Addr}
use Rattle.httparse.specs.Grammar.{RequestHead, Field, ReadsRequest, HasNoRequest, NeverHasRequest, MayBecomeRequest, print_request, field_value}
use Rattle.httparse.specs.Spans.{RequestExceeds}
use Rattle.lb_acl.specs.declared.head.Version.{Version}
use Rattle.lb_acl.specs.declared.head.Version.TheVariants.{Http10, Http11}
use Rattle.lb_acl.specs.FieldView.{FieldView}
use Rattle.lb_acl.specs.HeadView.{HeadView}
use Rattle.http_relay_wire.specs.Wires.{Reading}
use Rattle.http_relay_wire.specs.Faults.{after_read_fault}
use Rattle.http_relay_wire.specs.declared.fault.FaultCounts.{FaultCounts}
use Rattle.http_relay_forward.specs.Framing.{framing}
use Rattle.http_relay_forward.specs.declared.framing.BodyKind.{BodyKind}
use Rattle.http_relay_forward.specs.declared.framing.HeadRefusal.{HeadRefusal}
use Rattle.http_relay_forward.specs.declared.framing.HeadRefusal.TheVariants as Refused
use Rattle.http_relay_head.specs.declared.scanning.TheConstants.{HEAD_ROOM, MOST_FIELDS}
use Rattle.http_relay_head.specs.ReadHeadView.{ReadHeadView}
use Rattle.http_relay_head.specs.declared.fault.HeadFault.{HeadFault}
use Rattle.http_relay_head.specs.declared.fault.HeadFault.TheVariants.{HeadTooLarge, BadHead, Truncated, Wire, BothLengths, Memory}

-- HTTP/1.0 or HTTP/1.1, by the digit behind the dot
abbrev pub version_of : ℕ → Version
version_of minor = if minor == 0 then Http10 else Http11

-- a field: its name, and its value without blanks round it
abbrev pub field_of : Field → FieldView
field_of field = record { name = field.name; value = field_value field }

-- the parts of the head, and the client's address
abbrev pub head_of : RequestHead → Ipv4Addr → HeadView
head_of head source = record {
  method = head.method;
  target = head.target;
  version = version_of head.minor;
  fields = map field_of head.fields;
  source = source;
}

-- the text is this head and then rest, the head is within the limits, and the rules say that of it
pub record IsHead (source : Ipv4Addr) (said : Result BodyKind HeadRefusal) (text : List ℕ) (head : RequestHead) (rest : List ℕ) : Type 0 where
  pub reads : ReadsRequest text head rest
  pub size : length (print_request head) ≤ HEAD_ROOM
  pub fields : length head.fields ≤ MOST_FIELDS
  pub framed : framing (head_of head source) ≡ said

-- the text begins with a head within the limits of which the rules say that
abbrev pub BeginsWithHead : Ipv4Addr → Result BodyKind HeadRefusal → List ℕ → Type 0
BeginsWithHead source said text = (head : RequestHead) × (rest : List ℕ) × IsHead source said text head rest

-- the text begins with a head that is not refused
abbrev pub HasGoodHead : Ipv4Addr → List ℕ → Type 0
HasGoodHead source text = (kind : BodyKind) × BeginsWithHead source (Ok kind) text

-- it doesn't, whatever follows
abbrev pub NeverHasGoodHead : Ipv4Addr → List ℕ → Type 0
NeverHasGoodHead source text = (more : List ℕ) → ¬ HasGoodHead source (text ++ more)

-- the text has all bytes that a head may have, or more fields than one may have
abbrev pub IsOverLimit : List ℕ → Type 0
IsOverLimit text = (HEAD_ROOM ≤ length text) ⊎ RequestExceeds MOST_FIELDS text

-- the text is less than a head: none stands at its front, good or refused, more bytes may make one (or its target is still being
-- read), and it has fewer bytes than a head may have
abbrev pub IsUnfinished : List ℕ → Type 0
IsUnfinished text = HasNoRequest text × MayBecomeRequest text × (length text < HEAD_ROOM)

-- the text is less than a head, and it is all that came: behind it no byte is left, and a read has told so
abbrev pub IsCutShort : List ℕ → Reading → Type 0
IsCutShort text reading = IsUnfinished text × IsAtEnd reading.unread × (reading.ended ≡ true)

-- what an answer says of the text that was read, and of the wire behind it
abbrev pub Answers : Ipv4Addr → List ℕ → Reading → Result ReadHeadView HeadFault → Type 0
Answers source text reading (Ok read) =
    (head : RequestHead) × IsHead source (Ok read.kind) text head read.rest × (read.head ≡ head_of head source)
Answers source text reading (Err HeadTooLarge) = NeverHasGoodHead source text × IsOverLimit text
Answers source text reading (Err BadHead) =
    NeverHasGoodHead source text × (NeverHasRequest text ⊎ BeginsWithHead source (Err Refused.BadHead) text)
Answers source text reading (Err BothLengths) = NeverHasGoodHead source text × BeginsWithHead source (Err Refused.BothLengths) text
Answers source text reading (Err Truncated) = IsCutShort text reading
Answers source text reading (Err (Wire fault)) = IsUnfinished text
Answers source text reading (Err Memory) = Unit {0}

-- the bytes between the two moments were read, and the answer speaks of them
pub record HeadRead (source : Ipv4Addr) (old new : Reading) (answer : Result ReadHeadView HeadFault) : Type 0 where
  pub text : List ℕ
  pub read : old.unread ≡ prepend_known text new.unread
  pub answers : Answers source text new answer

-- what an answer says of the whole input, be it read or not: a good head stands at its front, or at 90, 91, 92 and 95 none does
abbrev pub JudgesInput : Ipv4Addr → List ℕ → Result ReadHeadView HeadFault → Type 0
JudgesInput source input (Ok read) = BeginsWithHead source (Ok read.kind) input
JudgesInput source input (Err HeadTooLarge) = ¬ HasGoodHead source input
JudgesInput source input (Err BadHead) = ¬ HasGoodHead source input
JudgesInput source input (Err BothLengths) = ¬ HasGoodHead source input
JudgesInput source input (Err Truncated) = ¬ HasGoodHead source input
JudgesInput source input (Err (Wire fault)) = Unit {0}
JudgesInput source input (Err Memory) = Unit {0}

-- a refused head's fault
abbrev pub told_refusal : HeadRefusal → HeadFault
told_refusal Refused.BadHead = BadHead
told_refusal Refused.BothLengths = BothLengths

-- the counts after a fault: one read has failed where the fault is the wire's, and none else
abbrev pub after_fault : HeadFault → FaultCounts → FaultCounts
after_fault (Wire fault) counts = after_read_fault fault counts
after_fault HeadTooLarge counts = counts
after_fault BadHead counts = counts
after_fault Truncated counts = counts
after_fault BothLengths counts = counts
after_fault Memory counts = counts

-- the counts after an answer
abbrev pub after_head : {A : Type 0} → Result A HeadFault → FaultCounts → FaultCounts
after_head (Ok read) counts = counts
after_head (Err fault) counts = after_fault fault counts

-- the number of the fault
abbrev pub fault_number : HeadFault → Option ℕ
fault_number HeadTooLarge = Some 90
fault_number BadHead = Some 91
fault_number Truncated = Some 92
fault_number (Wire fault) = Some 93
fault_number BothLengths = Some 95
fault_number Memory = None
