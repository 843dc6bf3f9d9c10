-- What a step does to the parts of a desk.
use Rattle.std.proofs.Common.{◌≡◌, ◌≤◌, ◌<◌, ◌^◌, ℕ, ◌+◌, ◌-◌, Bool, true, false, not, ◌&&◌, leb, List, [], ◌∷◌, ◌++◌, length, refl, sym, ap, ◌∙◌, subst, length-append, arith}
use Rattle.std.proofs.lemmas.Bool.{leb-false, false≢true}
use Rattle.lb_desk_model.specs.declared.entry.Entry.{Entry}
use Rattle.lb_desk_model.specs.declared.event.Event.{Event}
use Rattle.lb_desk_model.specs.declared.event.Event.TheVariants.{Serve, Set, Clear, Open, Close, Expire, Check, Command, Snapshot, Install}
use Rattle.lb_desk_model.specs.declared.reply.Reply.{Reply}
use Rattle.lb_desk_model.specs.Backends.{BackendParts, IsBackend}
use Rattle.lb_desk_model.specs.Seen.{Seen, Steps, seen}
use Rattle.lb_desk_model.specs.States.{opening}
use Rattle.lb_desk_model.specs.Worn.{ends_one, is_worn, open_connections}
use Rattle.lb_desk_law.specs.Worlds.{entry}
use Rattle.lb_desk_seen.specs.Counting.{Fits}
use Rattle.lb_desk_seen.specs.Reached.{Reaches}
use Rattle.lb_desk_seen.proofs.Counted.{counts_are_few, histories_fit, steps_fit}
use Rattle.lb_desk_seen.proofs.Logged.{headline_of_a_log}
use Rattle.lb_desk_seen.proofs.Reaching.{opening_is_shown, steps_are_shown}
use Rattle.lb_desk_core.specs.Core.{CoreView}
use Rattle.lb_desk_tail.specs.Tail.{TailView, IsTailOf, empty_tail, with_entry}
use Rattle.lb_desk_step.specs.Acts.{CanCount, Connects, closed_by, opened_by}
use Rattle.lb_desk_step.specs.Desk.{DeskView, IsDesk, KeepsHeadline, KeepsNoneBad, StandsAt, Takes, is_worn_for, opening_desk, taken}
use Rattle.lb_desk_step.specs.Parts.{AgreeParts, desk_of}
use Rattle.lb_desk_step.proofs.NeverBad.{none_is_bad}

-- ---- one entry more

abbrev pub EndsLog : TailView Entry → Entry → TailView Entry → Type 0
EndsLog old e new = (log : List Entry) → IsTailOf log old → IsTailOf (log ++ e ∷ []) new

pub stands_further : (old : DeskView) (event : Event) (reply : Reply) (new : DeskView) → Steps old.shown event reply new.shown
    → EndsLog old.journal (entry event reply) new.journal
    → (backend : BackendParts) (log : List Entry) → StandsAt backend log old → StandsAt backend (log ++ entry event reply ∷ []) new
stands_further old event reply new steps ends backend log at = record {
  reaches = steps_are_shown backend log old.shown event reply new.shown at.reaches steps;
  end = ends log at.end;
}

-- ---- numbers

-- where the event isn't a close, a desk that isn't worn has room for an entry
below : (shown : Seen) (entries : ℕ) → (leb (2 ^ 63) (entries + open_connections shown) && true) ≡ false
    → entries + open_connections shown < 2 ^ 63
below shown entries e = leb-false (2 ^ 63) (entries + open_connections shown) (go (leb (2 ^ 63) (entries + open_connections shown)) e)
  where
    go : (a : Bool) → (a && true) ≡ false → a ≡ false
    go true e = e
    go false e = refl

numbers : (core : CoreView) (journal : TailView Entry) (open_ones : ℕ) → AgreeParts core journal open_ones
    → taken (desk_of core journal) + open_connections core.shown < 2 ^ 63
    → (core.shown.version < 2 ^ 63) × (core.uses < 2 ^ 63) × (open_connections core.shown < 2 ^ 63)
numbers core journal open_ones parts room =
    let few = parts.desk.fits.few in
    let uses = parts.uses in
    (omega arith, omega arith, omega arith)

pub can_count : (core : CoreView) (journal : TailView Entry) (open_ones : ℕ) (event : Event) → AgreeParts core journal open_ones
    → is_worn_for (desk_of core journal) event ≡ false → CanCount core event
can_count core journal open_ones (Serve request) parts fresh = numbers core journal open_ones parts (below core.shown (taken (desk_of core journal)) fresh)
can_count core journal open_ones (Set set) parts fresh = numbers core journal open_ones parts (below core.shown (taken (desk_of core journal)) fresh)
can_count core journal open_ones (Clear name) parts fresh = numbers core journal open_ones parts (below core.shown (taken (desk_of core journal)) fresh)
can_count core journal open_ones (Open server) parts fresh = numbers core journal open_ones parts (below core.shown (taken (desk_of core journal)) fresh)
can_count core journal open_ones (Close server) parts fresh = tt
can_count core journal open_ones (Expire now) parts fresh = numbers core journal open_ones parts (below core.shown (taken (desk_of core journal)) fresh)
can_count core journal open_ones (Check server ok) parts fresh = numbers core journal open_ones parts (below core.shown (taken (desk_of core journal)) fresh)
can_count core journal open_ones (Command change) parts fresh = numbers core journal open_ones parts (below core.shown (taken (desk_of core journal)) fresh)
can_count core journal open_ones Snapshot parts fresh = numbers core journal open_ones parts (below core.shown (taken (desk_of core journal)) fresh)
can_count core journal open_ones (Install plan) parts fresh = numbers core journal open_ones parts (below core.shown (taken (desk_of core journal)) fresh)

fits_further : (backend : BackendParts) (log : List Entry) (old : Seen) (event : Event) (reply : Reply) (new : Seen) (entries : ℕ)
    → Reaches backend log old → Steps old event reply new → is_worn old entries event ≡ false → Fits entries old → Fits (entries + 1) new
fits_further backend log old event reply new entries r steps fresh fits =
    let after = steps r.state r.is in
    let was_fresh : is_worn (seen r.state) entries event ≡ false = ap (λ (s : Seen). is_worn s entries event) r.is ∙ fresh in
    let did_fit : Fits entries (seen r.state) = subst (λ (s : Seen). Fits entries s) (sym r.is) fits in
    subst (λ (s : Seen). Fits (entries + 1) s) after.shown (steps_fit r.state event reply after.next entries after.step was_fresh did_fit)

-- ---- desks

one_more : (log : List Entry) (e : Entry) (old new : TailView Entry) → IsTailOf log old → IsTailOf (log ++ e ∷ []) new
    → new.first + length new.entries ≡ old.first + length old.entries + 1
one_more log e old new was is =
    let more = length-append log (e ∷ []) in
    let counted = was.counted in
    let counts = is.counted in
    omega arith

pub one_taken : (core : CoreView) (before after : TailView Entry) (e : Entry) (open_ones : ℕ) → AgreeParts core before open_ones → EndsLog before e after
    → taken (desk_of core after) ≡ taken (desk_of core before) + 1
one_taken core before after e open_ones parts ends =
    one_more parts.desk.log e before after parts.desk.stands.end (ends parts.desk.log parts.desk.stands.end)

desk_further : (old : DeskView) (event : Event) (reply : Reply) (new : DeskView) → IsDesk old → Steps old.shown event reply new.shown
    → EndsLog old.journal (entry event reply) new.journal → is_worn_for old event ≡ false → (IsDesk new) × (taken new ≡ taken old + 1)
desk_further old event reply new d steps ends fresh =
    let stands = stands_further old event reply new steps ends d.backend d.log d.stands in
    let more = one_more d.log (entry event reply) old.journal new.journal d.stands.end stands.end in
    let fits = fits_further d.backend d.log old.shown event reply new.shown (taken old) d.stands.reaches steps fresh d.fits in (
      record {
        backend = d.backend;
        lawful = d.lawful;
        log = d.log ++ entry event reply ∷ [];
        stands = stands;
        fits = subst (λ (n : ℕ). Fits n new.shown) (sym more) fits;
      },
      more,
    )

-- what a call of the core leaves
pub record IsActed (old : CoreView) (event : Event) (reply : Reply) (new : CoreView) : Type 0 where
  pub steps : Steps old.shown event reply new.shown
  pub connects : Connects old.shown event reply new.shown
  pub uses : new.uses ≤ old.uses + 1

pub parts_further : (old new : CoreView) (before after : TailView Entry) (open_before open_after : ℕ) (event : Event) (reply : Reply)
    → AgreeParts old before open_before → IsActed old event reply new → is_worn_for (desk_of old before) event ≡ false
    → EndsLog before (entry event reply) after → open_after ≡ open_connections new.shown → AgreeParts new after open_after
parts_further old new before after open_before open_after event reply parts acted fresh ends counted =
    let next = desk_further (desk_of old before) event reply (desk_of new after) parts.desk acted.steps ends fresh in
    let uses = parts.uses in
    let more_uses = acted.uses in
    let more = next.1 in
    record { desk = next.0; counted = counted; uses = omega arith }

-- the desk has taken the event
pub takes_of : (old new : CoreView) (before after : TailView Entry) (event : Event) (reply : Reply) → Steps old.shown event reply new.shown
    → after ≡ with_entry before (entry event reply) → EndsLog before (entry event reply) after
    → Takes (desk_of old before) event reply (desk_of new after)
takes_of old new before after event reply steps pushed ends = record {
  steps = steps;
  journal = pushed;
  log = stands_further (desk_of old before) event reply (desk_of new after) steps ends;
}

-- so many connections are open
pub connected : (old new : ℕ) (open_ones opens closes : ℕ) → new + closes ≡ old + opens → open_ones ≡ old → open_ones + opens - closes ≡ new
connected old new open_ones opens closes e counted = omega arith

-- ---- the opening

opens_empty : (capacity : ℕ) → IsTailOf {E = Entry} [] (empty_tail capacity)
opens_empty capacity = record { kept = refl; counted = refl; bounded = omega arith }

pub opening_stands : (backend : BackendParts) (capacity : ℕ) → StandsAt backend [] (opening_desk backend capacity)
opening_stands backend capacity = record { reaches = opening_is_shown backend; end = opens_empty capacity }

pub opening_is_desk : (backend : BackendParts) (capacity : ℕ) → IsBackend backend → IsDesk (opening_desk backend capacity)
opening_is_desk backend capacity lawful = record {
  backend = backend;
  lawful = lawful;
  log = [];
  stands = opening_stands backend capacity;
  fits = histories_fit backend [] (opening backend) refl tt;
}

pub opening_parts : (backend : BackendParts) (capacity : ℕ) (core : CoreView) → IsBackend backend → core.shown ≡ seen (opening backend)
    → core.uses ≡ 0 → AgreeParts core (empty_tail capacity) 0
opening_parts backend capacity core lawful shown uses =
    let none = (counts_are_few backend [] (opening backend) refl).connections in
    let same : open_connections core.shown ≡ open_connections (seen (opening backend)) = ap open_connections shown in
    record {
      desk = subst (λ (s : Seen). IsDesk (record { shown = s; journal = empty_tail capacity })) (sym shown) (opening_is_desk backend capacity lawful);
      counted = omega arith;
      uses = omega arith;
    }

-- ---- installs

pub keeps_headline : (desk : DeskView) → KeepsHeadline desk
keeps_headline desk backend log at = headline_of_a_log backend log at.reaches.state at.reaches.history

pub keeps_none_bad : (desk : DeskView) → KeepsNoneBad desk
keeps_none_bad desk backend log at = none_is_bad backend log at.reaches.state at.reaches.history
