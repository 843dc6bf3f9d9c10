-- When a check's response is a success: HAProxy Configuration Manual 2.8, `option httpchk`, statuses 2xx and 3xx; the head is
-- RFC 9112's as httparse reads it. Our own: the limits on the head, and that a probe goes on piece by piece.
use Rattle.std.specs.Prelude.{◌≡◌, ◌⊎◌, ℕ, ◌≤◌, ◌<◌, Bool, true, false, List, [], ◌++◌, length, Option, Some, None}
use Rattle.std.specs.Io.KnownBytes.{append_known, prepend_known, IsAtEnd}
use Rattle.httparse.specs.Grammar.{ResponseHead, ReadsResponse, HasNoResponse, MayBecomeResponse, print_response, status_code}
use Rattle.http_relay_wire.specs.Wires.{Reading}
use Rattle.http_relay_wire.specs.Faults.{after_read_fault, after_write_fault}
use Rattle.http_relay_wire.specs.declared.fault.WireFault.{WireFault}
use Rattle.http_relay_wire.specs.declared.fault.WireFault.TheVariants.{Timeout, Broken}
use Rattle.http_relay_wire.specs.declared.fault.FaultCounts.{FaultCounts}
use Rattle.check_workers_probe.specs.declared.judge.TheConstants.{MOST_BYTES, MOST_FIELDS}
use Rattle.check_workers_probe.specs.declared.judge.Verdict.{Verdict}
use Rattle.check_workers_probe.specs.declared.judge.Verdict.TheVariants.{Success, Failure, Unfinished}

-- the text is this head and then rest, and the head is that of a success within the limits
pub record IsSuccess (text : List ℕ) (head : ResponseHead) (rest : List ℕ) : Type 0 where
  pub reads : ReadsResponse text head rest
  pub size : length (print_response head) ≤ MOST_BYTES
  pub fields : length head.fields ≤ MOST_FIELDS
  pub least : 200 ≤ status_code head
  pub greatest : status_code head ≤ 399

-- the text begins with the head of a success
abbrev pub BeginsWithSuccess : List ℕ → Type 0
BeginsWithSuccess text = (head : ResponseHead) × (rest : List ℕ) × IsSuccess text head rest

-- the text doesn't, whatever follows
abbrev pub NeverBeginsWithSuccess : List ℕ → Type 0
NeverBeginsWithSuccess text = (more : List ℕ) → ¬ BeginsWithSuccess (text ++ more)

-- the text is less than a head: none stands at its front, more bytes may make one, and it has fewer than so many
abbrev pub IsUnfinished : ℕ → List ℕ → Type 0
IsUnfinished most text = HasNoResponse text × MayBecomeResponse text × (length text < most)

-- what a verdict says of a text that may have so many bytes
abbrev pub Judges : ℕ → List ℕ → Verdict → Type 0
Judges most text Success = BeginsWithSuccess text
Judges most text Failure = NeverBeginsWithSuccess text
Judges most text Unfinished = IsUnfinished most text

-- how far a probe has come: its request, if it sends one, what of that is still to be sent, and what has come back
pub record Course : Type 0 where
  pub request : Option (List ℕ)
  pub unsent : List ℕ
  pub came : List ℕ

-- the course of a probe that has sent nothing yet
abbrev pub at_start : Option (List ℕ) → Course
at_start None = record { request = None; unsent = []; came = [] }
at_start (Some request) = record { request = Some request; unsent = request; came = [] }

-- a probe went on: it sent a beginning of what was unsent, and read only once all of that was sent
pub record GoesOn (old new : Course) (first last : Option (List ℕ)) (before after : Reading) : Type 0 where
  pub sent : List ℕ
  pub text : List ℕ
  pub request : new.request ≡ old.request
  pub unsent : old.unsent ≡ sent ++ new.unsent
  pub written : last ≡ append_known first sent
  pub came : new.came ≡ old.came ++ text
  pub read : before.unread ≡ prepend_known text after.unread
  pub in_turn : 0 < length new.unsent → text ≡ []

-- not all is sent, since a write failed so
abbrev pub IsUnsent : WireFault → Course → FaultCounts → FaultCounts → Type 0
IsUnsent fault course before after = (0 < length course.unsent) × (after ≡ after_write_fault fault before)

-- all is sent, and what has come is less than a head, since a read failed so
abbrev pub IsUnread : WireFault → Course → FaultCounts → FaultCounts → Type 0
IsUnread fault course before after = (course.unsent ≡ []) × IsUnfinished MOST_BYTES course.came × (after ≡ after_read_fault fault before)

-- all is sent, what has come is less than a head, and it is all: behind it no byte is left, and a read has told so
abbrev pub IsCutShort : Course → Reading → Type 0
IsCutShort course reading = (course.unsent ≡ []) × IsUnfinished MOST_BYTES course.came × IsAtEnd reading.unread × (reading.ended ≡ true)

-- why a probe that sends a request answers so, and which failures it counted while it went on: one, or none
abbrev pub Answers : Option Bool → Course → Reading → FaultCounts → FaultCounts → Type 0
Answers (Some true) course reading before after = (course.unsent ≡ []) × BeginsWithSuccess course.came × (after ≡ before)
Answers (Some false) course reading before after =
    IsUnsent Broken course before after ⊎ IsUnread Broken course before after ⊎ (IsCutShort course reading × (after ≡ before))
    ⊎ ((course.unsent ≡ []) × NeverBeginsWithSuccess course.came × (after ≡ before))
Answers None course reading before after = IsUnsent Timeout course before after ⊎ IsUnread Timeout course before after
