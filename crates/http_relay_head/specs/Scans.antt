-- What the steps of a reader of heads tell one another. No public clause cites this module.
use Rattle.std.specs.Prelude.{◌≡◌, ℕ, ◌≤◌, List, map, ◌++◌, take, drop, length, Result, Ok, Err}
use Rattle.std.specs.Io.KnownBytes.{prepend_known}
use Rattle.std.specs.declared.net.ipv4_addr.Ipv4Addr.{Ipv4Addr}
use Rattle.httparse.specs.Grammar.{RequestHead, ReadsRequest, NeverHasRequest, print_request}
use Rattle.httparse.specs.Spans.{span_bytes, IsRequestOf, IsRequestWithin}
use Rattle.httparse.specs.declared.spans.HeaderSpan.{HeaderSpan}
use Rattle.httparse.specs.declared.spans.RequestSpans.{RequestSpans}
use Rattle.lb_acl.specs.FieldView.{FieldView}
use Rattle.lb_acl.specs.HeadView.{HeadView}
use Rattle.http_relay_wire.specs.Wires.{Reading}
use Rattle.http_relay_forward.specs.Framing.{framing}
use Rattle.http_relay_forward.specs.declared.framing.HeadRefusal.TheVariants as Refused
use Rattle.http_relay_head.specs.declared.scanning.TheConstants.{HEAD_ROOM, MOST_FIELDS}
use Rattle.http_relay_head.specs.ReadHeadView.{ReadHeadView}
use Rattle.http_relay_head.specs.Heads.{version_of, IsOverLimit, IsUnfinished, IsCutShort}
use Rattle.http_relay_head.specs.declared.fault.HeadFault.{HeadFault}
use Rattle.http_relay_head.specs.declared.fault.HeadFault.TheVariants.{HeadTooLarge, BadHead, Truncated, Wire, BothLengths, Memory}
use Rattle.http_relay_head.specs.declared.scanning.Scanned.{Scanned}
use Rattle.http_relay_head.specs.declared.scanning.Scanned.TheVariants as Found
use Rattle.http_relay_head.specs.declared.filling.Found.{Found as FoundHead}

-- whatever follows, a head at the front is beyond the limits
abbrev pub NeverFits : List ℕ → Type 0
NeverFits text = (more : List ℕ) (head : RequestHead) (rest : List ℕ) → ReadsRequest (text ++ more) head rest
    → length (print_request head) ≤ HEAD_ROOM → length head.fields ≤ MOST_FIELDS → ⊥

-- what a scan says of a text
abbrev pub Scans : List ℕ → List HeaderSpan → Scanned → Type 0
Scans text headers (Found.Head spans) = IsRequestOf text headers spans × IsRequestWithin text headers spans
Scans text headers Found.Unfinished = IsUnfinished text
Scans text headers Found.TooLarge = NeverFits text × IsOverLimit text
Scans text headers Found.Bad = NeverHasRequest text

-- what filling a room says of the text that was read
abbrev pub Fills : List ℕ → Reading → List ℕ → List HeaderSpan → Result FoundHead HeadFault → Type 0
Fills text reading room headers (Ok found) =
    (found.filled ≤ length room) × (text ≡ take found.filled room) × IsRequestOf text headers found.spans × IsRequestWithin text headers found.spans
Fills text reading room headers (Err HeadTooLarge) = NeverFits text × IsOverLimit text
Fills text reading room headers (Err BadHead) = NeverHasRequest text
Fills text reading room headers (Err Truncated) = IsCutShort text reading
Fills text reading room headers (Err (Wire fault)) = IsUnfinished text
Fills text reading room headers (Err BothLengths) = ⊥
Fills text reading room headers (Err Memory) = ⊥

-- the bytes between the two moments were read, and stand in the room where a head was found
pub record Filled (old new : Reading) (room : List ℕ) (headers : List HeaderSpan) (answer : Result FoundHead HeadFault) : Type 0 where
  pub text : List ℕ
  pub read : old.unread ≡ prepend_known text new.unread
  pub fills : Fills text new room headers answer

-- the field that a header's spans cover
abbrev pub field_at : List ℕ → HeaderSpan → FieldView
field_at bytes header = record { name = span_bytes bytes header.name; value = span_bytes bytes header.value }

-- the head that spans cover
abbrev pub head_at : List ℕ → List HeaderSpan → RequestSpans → Ipv4Addr → HeadView
head_at bytes headers spans source = record {
  method = span_bytes bytes spans.method;
  target = span_bytes bytes spans.path;
  version = version_of spans.version;
  fields = map (field_at bytes) (take spans.headers headers);
  source = source;
}

-- what making a head of its spans says
abbrev pub Assembles : List ℕ → List HeaderSpan → RequestSpans → Ipv4Addr → Result ReadHeadView HeadFault → Type 0
Assembles bytes headers spans source (Ok read) =
    (read.head ≡ head_at bytes headers spans source) × (read.rest ≡ drop spans.len bytes)
    × (framing (head_at bytes headers spans source) ≡ Ok read.kind)
Assembles bytes headers spans source (Err BadHead) = framing (head_at bytes headers spans source) ≡ Err Refused.BadHead
Assembles bytes headers spans source (Err BothLengths) = framing (head_at bytes headers spans source) ≡ Err Refused.BothLengths
Assembles bytes headers spans source (Err Memory) = Unit {0}
Assembles bytes headers spans source (Err HeadTooLarge) = ⊥
Assembles bytes headers spans source (Err Truncated) = ⊥
Assembles bytes headers spans source (Err (Wire fault)) = ⊥
