-- What is learned of an answer, piece by piece.
use Rattle.std.proofs.Common.{◌≡◌, ℕ, Bool, true, false, List, [], ◌∷◌, ◌++◌, append-nil, append_assoc, Option, Some, None, Result, Ok, Err, IsErr, ◌⊎◌, inl, inr, refl, sym, subst, ap, ◌∙◌}
use Rattle.std.proofs.lemmas.Bool.{false≢true}
use Rattle.std.specs.Io.KnownBytes.{prepend_known}
use Rattle.http_relay_wire.proofs.KnownBytes.{prepend_nothing, prepend_twice}
use Rattle.http_relay_wire.specs.Wires.{Reading}
use Rattle.lb_desk_model.specs.declared.entry.Entry.{Entry}
use Rattle.lb_desk_model.specs.declared.event.SetPin.{SetPin}
use Rattle.lb_desk_ports.specs.Calls.{after_call}
use Rattle.lb_desk_ports.specs.Ports.{pinning_entries}
use Rattle.lb_desk_ports.specs.declared.refused.Refused.{Refused}
use Rattle.lb_desk_ports.specs.declared.replies.Pinning.{Pinning}
use Rattle.set_cookie.specs.Answers.{is_unfinished}
use Rattle.set_cookie.specs.TaughtKeys.{IsTaughtKey}
use Rattle.http_relay_talk.specs.Learnings.{LearnsMore, TeachesAll, TeachesMore}
use Rattle.http_relay_talk.specs.Lessons.{LessonView, IsTaughtPin, Learns, Makes, SetsTaughtPin, Taught, Teaches, both, untaught}
use Rattle.http_relay_talk.specs.Shares.{after_refusals, refusals_of}
use Rattle.http_relay_talk.specs.Visits.{IsLearning}
use Rattle.http_relay_talk.specs.declared.learning.Front.{Front}
use Rattle.http_relay_talk.specs.declared.learning.Learning.{Learning}
use Rattle.http_relay_talk.specs.declared.learning.Learning.TheVariants.{Over, Goes}

-- ---- what was done, in two parts

both_nothing : (taught : Taught) → both taught untaught ≡ taught
both_nothing taught = ap (λ es. record { entries = es; refusals = taught.refusals ++ [] }) (append-nil taught.entries)
    ∙ ap (λ rs. record { entries = taught.entries; refusals = rs }) (append-nil taught.refusals)

pub makes_nothing : (entries : List Entry) (refusals : ℕ) → Makes untaught entries entries refusals refusals
makes_nothing entries refusals = (sym (append-nil entries), refl)

-- ---- more of an answer

sets_more : (lesson : LessonView) (server : ℕ) (answer more : List ℕ) (taught : Taught) → SetsTaughtPin lesson server answer taught
    → SetsTaughtPin lesson server (answer ++ more) taught
sets_more lesson server answer more taught x = record {
  first = x.first;
  rest = x.rest ++ more;
  begins = ap (λ text. text ++ more) x.begins ∙ append_assoc x.first x.rest more;
  pin = x.pin;
  is = x.is;
  reply = x.reply;
  entries = x.entries;
  refusals = x.refusals;
}

-- what was learned of a beginning was learned of more
pub learns_more : (lesson : Option LessonView) (server : ℕ) (answer more : List ℕ) (taught : Taught) → Learns lesson server answer taught
    → Learns lesson server (answer ++ more) taught
learns_more None server answer more taught x = x
learns_more (Some lesson) server answer more taught (inl nothing) = inl nothing
learns_more (Some lesson) server answer more taught (inr sets) = inr (sets_more lesson server answer more taught sets)

pub learns_nothing : (lesson : Option LessonView) (server : ℕ) (answer : List ℕ) → Learns lesson server answer untaught
learns_nothing None server answer = refl
learns_nothing (Some lesson) server answer = inl refl

-- what is learned while the answer goes on counts at its end
pub learns_at_end : (lesson : Option LessonView) (server : ℕ) (answer : List ℕ) (learning : Learning) (taught : Taught)
    → IsLearning lesson server answer learning taught → Learns lesson server answer taught
learns_at_end lesson server answer Over taught x = x
learns_at_end lesson server answer (Goes front) taught x =
    subst (λ t. Learns lesson server answer t) (sym x.3) (learns_nothing lesson server answer)

-- nothing is learned any more
pub over_learns : (lesson : Option LessonView) (server : ℕ) (answer piece : List ℕ) (taught : Taught) (entries : List Entry) (refusals : ℕ)
    → Learns lesson server answer taught → LearnsMore lesson server answer piece taught entries entries refusals refusals Over
over_learns lesson server answer piece taught entries refusals x = (
  untaught,
  makes_nothing entries refusals,
  subst (λ t. Learns lesson server (answer ++ piece) t) (sym (both_nothing taught)) (learns_more lesson server answer piece taught x),
)

-- the bytes that were kept have taught nothing
pub front_learns : (front : Front) (lesson : Option LessonView) (server : ℕ) (answer piece : List ℕ) (taught : Taught) (old new : List Entry)
    (refusals refused : ℕ) (learning : Learning) → IsLearning lesson server answer (Goes front) taught
    → TeachesMore front piece old new refusals refused learning
    → LearnsMore lesson server answer piece taught old new refusals refused learning
front_learns front lesson server answer piece taught old new refusals refused learning (is, at, kept, nothing) (more, makes, learns) = (
  more,
  makes,
  subst (λ t. IsLearning lesson server (answer ++ piece) learning (both t more)) (sym nothing)
      (subst (λ l. IsLearning l server (answer ++ piece) learning more) (sym is)
      (subst (λ s. IsLearning (Some front.lesson) s (answer ++ piece) learning more) at
      (subst (λ text. IsLearning (Some front.lesson) front.server (text ++ piece) learning more) kept learns))),
)

-- ---- a pin that is set

after_set : (reply : Result Pinning Refused) (count : ℕ) → after_refusals (refusals_of reply) count ≡ after_call reply count
after_set (Ok value) count = refl
after_set (Err refused) count = refl

pub set_teaches : (lesson : LessonView) (server : ℕ) (answer : List ℕ) (pin : SetPin) (old new : List Entry) (refusals refused : ℕ)
    (reply : Result Pinning Refused) → is_unfinished answer ≡ false → IsTaughtPin lesson server answer pin
    → new ≡ old ++ pinning_entries pin reply → refused ≡ after_call reply refusals
    → (taught : Taught) × Makes taught old new refusals refused × ((is_unfinished answer ≡ false)
    × ((IsTaughtKey lesson.pattern answer None × (taught ≡ untaught)) ⊎ SetsTaughtPin lesson server answer taught))
set_teaches lesson server answer pin old new refusals refused reply whole is adds counted = (
  record { entries = pinning_entries pin reply; refusals = refusals_of reply },
  (adds, counted ∙ sym (after_set reply refusals)),
  (
    whole,
    inr (record {
      first = answer;
      rest = [];
      begins = sym (append-nil answer);
      pin = pin;
      is = is;
      reply = reply;
      entries = refl;
      refusals = refl;
    }),
  ),
)

-- ---- what is learned by a look at an answer

all_learns : {E : Type 0} (lesson : LessonView) (server : ℕ) (answer : List ℕ) (taught : Taught) (result : Result Bool E)
    → TeachesAll lesson server answer taught result → Learns (Some lesson) server answer taught
all_learns lesson server answer taught (Ok true) (more, nothing) = inl nothing
all_learns lesson server answer taught (Ok false) (whole, inl (none, nothing)) = inl nothing
all_learns lesson server answer taught (Ok false) (whole, inr sets) = inr sets
all_learns lesson server answer taught (Err failed) nothing = inl nothing

-- this was learned of an answer at a port, with this result
abbrev pub Looks : {E : Type 0} → LessonView → ℕ → List ℕ → List Entry → List Entry → ℕ → ℕ → Result Bool E → Type 0
Looks lesson server answer old new refusals refused result =
    (taught : Taught) × Makes taught old new refusals refused × TeachesAll lesson server answer taught result

-- memory ran out before anything was done
pub looks_in_vain : {E : Type 0} (lesson : LessonView) (server : ℕ) (answer : List ℕ) (entries : List Entry) (refusals : ℕ) (result : Result Bool E)
    → IsErr result → Looks lesson server answer entries entries refusals refusals result
looks_in_vain lesson server answer entries refusals (Ok more) failed = absurd (false≢true failed)
looks_in_vain lesson server answer entries refusals (Err fault) failed = (untaught, makes_nothing entries refusals, refl)

-- a look at the bytes that were kept and the first ones of what came is one at all of that
pub looks_last : {E : Type 0} (front : Front) (seen rest piece : List ℕ) (old new : List Entry) (refusals refused : ℕ) (result : Result Bool E)
    → piece ≡ seen ++ rest → Looks front.lesson front.server (front.bytes.items ++ seen) old new refusals refused result
    → TeachesMore front piece old new refusals refused Over
looks_last front seen rest piece old new refusals refused result is (taught, makes, all) = (
  taught,
  makes,
  subst (λ text. Learns (Some front.lesson) front.server text taught)
      (append_assoc front.bytes.items seen rest ∙ ap (λ text. front.bytes.items ++ text) (sym is))
      (learns_more (Some front.lesson) front.server (front.bytes.items ++ seen) rest taught
      (all_learns front.lesson front.server (front.bytes.items ++ seen) taught result all)),
)

-- nothing is learned of it
pub teaches_none : (front : Front) (piece : List ℕ) (entries : List Entry) (refusals : ℕ)
    → TeachesMore front piece entries entries refusals refusals Over
teaches_none front piece entries refusals = (untaught, makes_nothing entries refusals, inl refl)

-- ---- what was read

-- a piece more was read
pub reads_more : (old mid new : Reading) (piece : List ℕ) (Learned More : List ℕ → Type 0) → (x : Teaches old mid Learned)
    → mid.unread ≡ prepend_known piece new.unread → More (x.text ++ piece) → Teaches old new More
reads_more old mid new piece Learned More x read learned = record {
  text = x.text ++ piece;
  read = x.read ∙ ap (prepend_known x.text) read ∙ prepend_twice new.unread x.text piece;
  learned = learned;
}

-- nothing was read
pub reads_nothing : (old new : Reading) (Learned : List ℕ → Type 0) → old.unread ≡ new.unread → Learned [] → Teaches old new Learned
reads_nothing old new Learned same learned = record { text = []; read = same ∙ sym (prepend_nothing new.unread); learned = learned }
