-- Copies are of a moment after all events of the pass.
use Rattle.std.proofs.Common.{◌≡◌, ℕ, zero, suc, ◌+◌, ◌≤◌, true, nat_le, List, [], ◌∷◌, ◌++◌, length, drop, Some, sym, ap, subst, ◌∙◌, arith}
use Rattle.std.specs.Prelude.{slice_get}
use Rattle.std.proofs.lemmas.Bool.{and_parts}
use Rattle.std.proofs.lemmas.Bool.Decides.{nat_tests}
use Rattle.pin_set.specs.declared.table_pin.TablePin.{TablePin}
use Rattle.lb_desk_model.specs.declared.entry.Entry.{Entry}
use Rattle.lb_desk_model.specs.Backends.{BackendParts, opened_backend}
use Rattle.lb_desk_model.specs.Seen.{Seen}
use Rattle.lb_desk_shared.specs.declared.journal_copy.JournalCopy.{JournalCopy}
use Rattle.lb_desk_shared.specs.Calls.{entries_of}
use Rattle.lb_desk_shared.specs.Desks.{IsCopyOf, IsReached, Sees, SeesDesk}
use Rattle.lb_desk_step.specs.Desk.{DeskView}
use Rattle.lb_desk_steer.specs.Steering.{AreIn, Moment, SeesJournal, SeesPins}
use Rattle.lb_desk_tail.specs.Tail.{IsTailOf, TailView}
use Rattle.lb_desk_tie.specs.Receipts.{Each, PassView, StandsIn, rises_from}

cut_before : {A : Type 0} (xs : List A) (n k : ℕ) (x : A) → n ≤ k → slice_get xs k ≡ Some x → (before : List A) × (drop n xs ≡ before ++ x ∷ drop (suc k) xs)
cut_before [] n k x within at = absurd cc
cut_before (y ∷ ys) zero zero x within at = ([], cc)
cut_before (y ∷ ys) zero (suc k) x within at =
    let rest = cut_before ys zero k x (omega arith) at in
    (y ∷ rest.0, ap (λ (zs : List _). y ∷ zs) rest.1)
cut_before (y ∷ ys) (suc n) zero x within at = absurd (omega arith)
cut_before (y ∷ ys) (suc n) (suc k) x within at = cut_before ys n k x (omega arith) at

-- the list from n on, cut before a place that is no earlier
cut : {A : Type 0} (xs : List A) (n k : ℕ) (x : A) → n ≤ k → slice_get xs k ≡ Some x → (before : List A) × (drop n xs ≡ before ++ x ∷ drop (k + 1) xs)
cut xs n k x within at =
    let parts = cut_before xs n k x within at in
    let next : suc k ≡ k + 1 = omega arith in
    (parts.0, parts.1 ∙ ap (λ (m : ℕ). parts.0 ++ x ∷ drop m xs) next)

-- receipts whose numbers rise are in the history in their order
are_in : (history : List Entry) (n : ℕ) (receipts : List (ℕ × Entry)) → Each (StandsIn history) receipts → rises_from n receipts ≡ true
    → AreIn (entries_of receipts) (drop n history)
are_in history n [] stand rise = tt
are_in history n (receipt ∷ receipts) stand rise =
    let parts = and_parts (nat_le n receipt.0) (rises_from (receipt.0 + 1) receipts) rise in
    let first : nat_le n receipt.0 ≡ true = parts.0 in
    let within : n ≤ receipt.0 = grind (arith, nat_tests) in
    let here = cut history n receipt.0 receipt.1 within stand.0 in
    (here.0, drop (receipt.0 + 1) history, here.1, are_in history (receipt.0 + 1) receipts stand.1 parts.1)

abbrev moment_of : (backend : BackendParts) (receipts : List (ℕ × Entry)) (desk : DeskView) → IsReached backend receipts desk → Moment backend (entries_of receipts)
moment_of backend receipts desk reached = record {
  history = reached.history;
  state = reached.stands.reaches.state;
  steps = reached.stands.reaches.history;
  has = are_in reached.history 0 receipts reached.stand reached.rise;
}

-- the sight of a pass is the last of its sights
sight_is : (backend : BackendParts) (old new : PassView Entry) (desk : DeskView) (sees : SeesDesk backend old desk new)
    → new.sights ≡ old.sights ++ sees.reached.history ∷ []
sight_is backend old new desk sees = ap (λ (p : PassView Entry). p.sights) sees.sight

pub pins_after : (parts : BackendParts) (number size : ℕ) (old new : PassView Entry) (pins : List TablePin)
    → Sees parts old (λ desk. pins ≡ desk.shown.pins) new
    → SeesPins (opened_backend number parts size) (entries_of old.receipts) old.sights new.sights pins
pins_after parts number size old new pins sees = (
  moment_of parts old.receipts sees.0 sees.1.reached,
  sight_is parts old new sees.0 sees.1,
  sees.2 ∙ ap (λ (s : Seen). s.pins) (sym sees.1.reached.stands.reaches.is),
)

pub journal_after : (parts : BackendParts) (number size : ℕ) (old new : PassView Entry) (copy : JournalCopy)
    → Sees parts old (λ desk. IsCopyOf size desk.journal copy) new
    → SeesJournal (opened_backend number parts size) (entries_of old.receipts) old.sights new.sights copy.first copy.entries.items
journal_after parts number size old new copy sees =
    let journal = sees.0.journal in
    let capacity : journal.capacity ≡ size = sees.2.capacity in
    let first : copy.first ≡ journal.first = sees.2.first in
    let entries : copy.entries.items ≡ journal.entries = sees.2.entries in
    let same : journal ≡ record { capacity = size; first = copy.first; entries = copy.entries.items } =
    λ i. record { capacity = capacity i; first = sym first i; entries = sym entries i } in (
      moment_of parts old.receipts sees.0 sees.1.reached,
      sight_is parts old new sees.0 sees.1,
      subst (λ (t : TailView Entry). IsTailOf sees.1.reached.history t) same sees.1.reached.stands.end,
    )
