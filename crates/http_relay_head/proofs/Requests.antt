-- Why bytes never begin with a good head, and what the spans of a head cover.
use Rattle.std.proofs.Common.{◌≡◌, ℕ, ◌≤◌, List, [], ◌++◌, append_assoc, append-nil, length, take, drop, map, arith, refl, ap, sym, ◌∙◌, subst, Option, None, Some, IfSome, Result, Ok, Err, inl, inr}
use Rattle.std.specs.declared.net.ipv4_addr.Ipv4Addr.{Ipv4Addr}
use Rattle.httparse.specs.Grammar.{RequestHead, ReadsRequest, HasNoRequest, NeverHasRequest, print_request}
use Rattle.httparse.specs.Spans.{IsRequestAt, IsRequestOf, IsRequestWithin, span_bytes, header_bytes, name_and_value}
use Rattle.httparse.specs.declared.spans.HeaderSpan.{HeaderSpan}
use Rattle.httparse.specs.declared.spans.RequestSpans.{RequestSpans}
use Rattle.httparse.proofs.GrammarLemmas.{request_prefix_free}
use Rattle.std.proofs.lemmas.Simd.{map-map}
use Rattle.std.proofs.lemmas.List.{length-map, length-take-le}
use Rattle.lb_acl.specs.FieldView.{FieldView}
use Rattle.lb_acl.specs.HeadView.{HeadView}
use Rattle.std.specs.Io.KnownBytes.{prepend_known, IsAtEnd}
use Rattle.http_relay_wire.proofs.Rooms.{front_within}
use Rattle.http_relay_wire.specs.Wires.{Reading}
use Rattle.http_relay_forward.specs.Framing.{framing}
use Rattle.http_relay_forward.specs.declared.framing.BodyKind.{BodyKind}
use Rattle.http_relay_forward.specs.declared.framing.HeadRefusal.{HeadRefusal}
use Rattle.http_relay_forward.specs.declared.framing.HeadRefusal.TheVariants as Refused
use Rattle.lb_acl.specs.declared.head.Version.{Version}
use Rattle.http_relay_head.specs.ReadHeadView.{ReadHeadView}
use Rattle.http_relay_head.specs.declared.filling.Found.{Found}
use Rattle.http_relay_head.specs.declared.fault.HeadFault.{HeadFault}
use Rattle.http_relay_head.specs.declared.fault.HeadFault.TheVariants.{HeadTooLarge, BadHead, Truncated, Wire, BothLengths, Memory}
use Rattle.http_relay_head.specs.Heads.{IsHead, HasGoodHead, NeverHasGoodHead, Answers, HeadRead, JudgesInput, version_of, head_of, field_of}
use Rattle.http_relay_head.specs.Scans.{NeverFits, Fills, Filled, Assembles, head_at, field_at}

-- no head stands at the front, and there are as many bytes as one may have
pub too_long : (text : List ℕ) → HasNoRequest text → 16384 ≤ length text → NeverFits text
too_long text none full more head rest reads size few =
    let enough : length (print_request head) ≤ length text = omega (arith, size, full) in
    none head (drop (length (print_request head)) text)
    (reads.0, front_within text more (print_request head) rest reads.1 enough)

-- what is beyond the limits is never good
pub over_never : (source : Ipv4Addr) (text : List ℕ) → NeverFits text → NeverHasGoodHead source text
over_never source text over more (kind, (head, rest, good)) = over more head rest good.reads good.size good.fields

-- what is no head is never good
pub bad_never : (source : Ipv4Addr) (text : List ℕ) → NeverHasRequest text → NeverHasGoodHead source text
bad_never source text bad more (kind, (head, rest, good)) = bad more head rest good.reads

-- without a head there is no good one: for callers, of a text that was cut short
pub none_yet : (source : Ipv4Addr) (text : List ℕ) → HasNoRequest text → ¬ HasGoodHead source text
none_yet source text none (kind, (head, rest, good)) = none head rest good.reads

-- a head that is refused stands at the front, and no other can
pub refused_never : (source : Ipv4Addr) (text : List ℕ) (head : RequestHead) (rest : List ℕ) (refusal : HeadRefusal)
    → ReadsRequest text head rest → framing (head_of head source) ≡ Err refusal → NeverHasGoodHead source text
refused_never source text head rest refusal reads refused more (kind, (other, behind, good)) =
    let same = request_prefix_free text more head other rest behind reads good.reads in
    let said = sym refused ∙ ap (λ h. framing (head_of h source)) same.0 ∙ good.framed in
    absurd cc

-- a name and a value as one field
as_field : List ℕ × List ℕ → FieldView
as_field pair = record { name = pair.0; value = pair.1 }

parts : List ℕ → List ℕ → Version → List FieldView → Ipv4Addr → HeadView
parts method target version fields source =
    record { method = method; target = target; version = version; fields = fields; source = source }

-- the spans' fields are the head's
fields_same : (text : List ℕ) (headers : List HeaderSpan) (spans : RequestSpans) (head : RequestHead) → IsRequestAt text headers spans head
    → map (field_at text) (take spans.headers headers) ≡ map field_of head.fields
unfolding as_field
fields_same text headers spans head at =
    sym (map-map as_field (header_bytes text) (take spans.headers headers))
    ∙ ap (map as_field) at.fields ∙ map-map as_field name_and_value head.fields

-- what the spans cover is the head
pub head_same : (text : List ℕ) (headers : List HeaderSpan) (spans : RequestSpans) (head : RequestHead) (source : Ipv4Addr)
    → IsRequestAt text headers spans head → head_at text headers spans source ≡ head_of head source
unfolding parts
head_same text headers spans head source at =
    let fields = map (field_at text) (take spans.headers headers) in
    ap (λ method. parts method (span_bytes text spans.path) (version_of spans.version) fields source) at.method
    ∙ ap (λ target. parts head.method target (version_of spans.version) fields source) at.path
    ∙ ap (λ minor. parts head.method head.target (version_of minor) fields source) at.version
    ∙ ap (λ fields. parts head.method head.target (version_of head.minor) fields source) (fields_same text headers spans head at)

-- as many fields as there are headers
few_fields : (text : List ℕ) (headers : List HeaderSpan) (spans : RequestSpans) (head : RequestHead)
    → IsRequestAt text headers spans head → IsRequestWithin text headers spans → length headers ≡ 100 → length head.fields ≤ 100
few_fields text headers spans head at within room =
    let spanned = length-take-le spans.headers headers within.section.count_fits in
    let same = sym (length-map (take spans.headers headers) (header_bytes text)) ∙ ap length at.fields ∙ length-map head.fields name_and_value in
    omega (arith, spanned, same, within.section.count_fits, room)

-- the head at the front, whatever the rules say of it
pub is_head : (source : Ipv4Addr) (said : Result BodyKind HeadRefusal) (text : List ℕ) (headers : List HeaderSpan) (spans : RequestSpans) (head : RequestHead)
    → IsRequestAt text headers spans head → IsRequestWithin text headers spans → length headers ≡ 100 → length text ≤ 16384
    → framing (head_at text headers spans source) ≡ said → IsHead source said text head (drop spans.len text)
is_head source said text headers spans head at within room size framed = record {
  reads = at.reads;
  size = omega (arith, at.len, within.section.len_fits, size);
  fields = few_fields text headers spans head at within room;
  framed = sym (ap framing (head_same text headers spans head source at)) ∙ framed;
}

-- what is made of the spans of a head answers for the text
pub assembled : (source : Ipv4Addr) (text : List ℕ) (headers : List HeaderSpan) (spans : RequestSpans) (after : Reading) (answer : Result ReadHeadView HeadFault)
    → IsRequestOf text headers spans → IsRequestWithin text headers spans → length headers ≡ 100 → length text ≤ 16384
    → Assembles text headers spans source answer → Answers source text after answer
assembled source text headers spans after (Ok read) (head, at) within room size made =
    let good = is_head source (Ok read.kind) text headers spans head at within room size made.2 in
    (head, subst (IsHead source (Ok read.kind) text head) (sym made.1) good, made.0 ∙ head_same text headers spans head source at)
assembled source text headers spans after (Err BadHead) (head, at) within room size made =
    let bad = is_head source (Err Refused.BadHead) text headers spans head at within room size made in
    (refused_never source text head (drop spans.len text) Refused.BadHead bad.reads bad.framed, inr (head, drop spans.len text, bad))
assembled source text headers spans after (Err BothLengths) (head, at) within room size made =
    let bad = is_head source (Err Refused.BothLengths) text headers spans head at within room size made in
    (refused_never source text head (drop spans.len text) Refused.BothLengths bad.reads bad.framed, (head, drop spans.len text, bad))
assembled source text headers spans after (Err Memory) of within room size made = tt
assembled source text headers spans after (Err HeadTooLarge) of within room size made = absurd made
assembled source text headers spans after (Err Truncated) of within room size made = absurd made
assembled source text headers spans after (Err (Wire fault)) of within room size made = absurd made

-- what a room that was filled in vain answers for the text
pub unfilled : (source : Ipv4Addr) (text room : List ℕ) (headers : List HeaderSpan) (after : Reading) (fault : HeadFault)
    → Fills text after room headers (Err fault) → Answers source text after (Err fault)
unfilled source text room headers after HeadTooLarge fills = (over_never source text fills.0, fills.1)
unfilled source text room headers after BadHead fills = (bad_never source text fills, inl fills)
unfilled source text room headers after Truncated fills = fills
unfilled source text room headers after (Wire fault) fills = fills
unfilled source text room headers after BothLengths fills = absurd fills
unfilled source text room headers after Memory fills = absurd fills

-- what was read into a room is what a head is made of
pub whole : (source : Ipv4Addr) (old new : Reading) (room : List ℕ) (headers : List HeaderSpan) (found : Found) (answer : Result ReadHeadView HeadFault)
    → length room ≡ 16384 → length headers ≡ 100 → Filled old new room headers (Ok found)
    → Assembles (take found.filled room) headers found.spans source answer → HeadRead source old new answer
whole source old new room headers found answer size many filled made =
    let front = take found.filled room in
    let fills = filled.fills in
    let is_front = fills.1 in
    let read : old.unread ≡ prepend_known front new.unread = filled.read ∙ ap (λ text. prepend_known text new.unread) is_front in
    let spans = subst (λ text. IsRequestOf text headers found.spans) is_front fills.2 in
    let within = subst (λ text. IsRequestWithin text headers found.spans) is_front fills.3 in
    let fits : length front ≤ 16384 = omega (arith, length-take-le found.filled room fills.0, fills.0, size) in
    record { text = front; read = read; answers = assembled source front headers found.spans new answer spans within many fits made }

-- a head at the front of the text stands at the front of what begins with the text
stays_head : (source : Ipv4Addr) (said : Result BodyKind HeadRefusal) (text more : List ℕ) (head : RequestHead) (rest : List ℕ)
    → IsHead source said text head rest → IsHead source said (text ++ more) head (rest ++ more)
stays_head source said text more head rest good = record {
  reads = (good.reads.0, ap (λ xs. xs ++ more) good.reads.1 ∙ append_assoc (print_request head) rest more);
  size = good.size;
  fields = good.fields;
  framed = good.framed;
}

-- what was read and what is left are the whole input
judges_known : (source : Ipv4Addr) (text more : List ℕ) (reading : Reading) (answer : Result ReadHeadView HeadFault)
    → reading.unread ≡ Some more → Answers source text reading answer → JudgesInput source (text ++ more) answer
judges_known source text more reading (Ok read) known (head, good, is) =
    (head, read.rest ++ more, stays_head source (Ok read.kind) text more head read.rest good)
judges_known source text more reading (Err HeadTooLarge) known says = says.0 more
judges_known source text more reading (Err BadHead) known says = says.0 more
judges_known source text more reading (Err BothLengths) known says = says.0 more
judges_known source text more reading (Err Truncated) known says =
    let nothing : more ≡ [] = subst IsAtEnd known says.1 in
    none_yet source (text ++ more) (subst HasNoRequest (sym (ap (λ xs. text ++ xs) nothing ∙ append-nil text)) says.0.0)
judges_known source text more reading (Err (Wire fault)) known says = tt
judges_known source text more reading (Err Memory) known says = tt

judges_unread : (source : Ipv4Addr) (text : List ℕ) (known : Option (List ℕ)) (reading : Reading) (answer : Result ReadHeadView HeadFault)
    → reading.unread ≡ known → Answers source text reading answer → IfSome (prepend_known text known) (λ input. JudgesInput source input answer)
judges_unread source text None reading answer is says = tt
judges_unread source text (Some more) reading answer is says = judges_known source text more reading answer is says

-- what is said of the text that was read says this of the whole input
pub judges_input : (source : Ipv4Addr) (old new : Reading) (answer : Result ReadHeadView HeadFault)
    → HeadRead source old new answer → IfSome old.unread (λ input. JudgesInput source input answer)
judges_input source old new answer head =
    subst (λ known. IfSome known (λ input. JudgesInput source input answer)) (sym head.read) (judges_unread source head.text new.unread new answer refl head.answers)
