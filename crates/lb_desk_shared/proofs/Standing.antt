-- The desk stands at the keeper's history, behind each call.
use Rattle.std.proofs.Common.{◌≡◌, ℕ, ◌+◌, Bool, true, false, nat_lt, List, [], ◌∷◌, ◌++◌, length, Option, Some, None, Result, Err, if◌then◌else◌, refl, sym, ap, ◌∙◌, subst, arith, length-append}
use Rattle.std.proofs.lemmas.Bool.Decides.{nat_tests}
use Rattle.std.specs.Option.{unwrap_or}
use Rattle.lb_desk_model.specs.declared.entry.Entry.{Entry}
use Rattle.lb_desk_model.specs.declared.event.Event.{Event}
use Rattle.lb_desk_model.specs.declared.event.Event.TheVariants.{Snapshot, Install}
use Rattle.lb_desk_model.specs.declared.reply.Reply.{Reply}
use Rattle.lb_desk_model.specs.declared.reply.Reply.TheVariants.{Sheet, Installed}
use Rattle.lb_desk_model.specs.Backends.{BackendParts}
use Rattle.lb_desk_model.specs.Worn.{open_connections}
use Rattle.lb_desk_ports.specs.Calls.{entry}
use Rattle.lb_desk_step.specs.declared.taken.TakenPlan.{TakenPlan}
use Rattle.lb_desk_step.specs.Desk.{DeskView, KeepsHeadline, StandsAt, Takes}
use Rattle.lb_desk_step.specs.Planning.{TakesPlan}
use Rattle.lb_desk_step.proofs.NeverBad.{none_is_bad}
use Rattle.lb_desk_tail.specs.Tail.{TailView}
use Rattle.lb_desk_tie.specs.Receipts.{Each, IsBeginningOf, IsSound, PassView, Shares, receipts_of, sights_of, with_receipt, with_sight}
use Rattle.lb_desk_shared.specs.declared.closing.CloseFault.{CloseFault}
use Rattle.lb_desk_shared.specs.declared.closing.CloseFault.TheVariants.{PassesOut, SlotsOut}
use Rattle.lb_desk_shared.specs.Calls.{AddsPlan, IsStepAt}
use Rattle.lb_desk_shared.specs.Closing.{Closes, fault_of}
use Rattle.lb_desk_shared.specs.Desks.{IsReached, Sees, SeesDesk, TiedView}

pub some_same : {A : Type 0} (x y : A) → Some x ≡ Some y → x ≡ y
some_same x y is = ap (λ o. unwrap_or o x) is

err_is : {A E : Type 0} (x y : E) → ◌≡◌ {A = Result A E} (Err x) (Err y) → x ≡ y
err_is x y is = cc

-- an error is the same of another result
pub same_err : {A B E : Type 0} (x y : E) → ◌≡◌ {A = Result A E} (Err x) (Err y) → ◌≡◌ {A = Result B E} (Err x) (Err y)
same_err x y is = ap Err (err_is x y is)

-- the event is the next step of the history that the desk stands at
pub is_step : (backend : BackendParts) (history : List Entry) (receipts : List (ℕ × Entry)) (old new : DeskView) (number : ℕ) (event : Event) (reply : Reply)
    → StandsAt backend history old → IsSound history receipts → Takes old event reply new → number ≡ length history
    → IsStepAt backend receipts number event reply
is_step backend history receipts old new number event reply at sound takes is =
    let next = takes.steps at.reaches.state at.reaches.is in
    record {
      history = history;
      counted = sym is;
      stand = sound.0;
      rise = sound.1;
      old = at.reaches.state;
      before = at.reaches.history;
      new = next.next;
      step = next.step;
    }

-- the desk at the end of the history is at a point that has all receipts which are sound in it
pub reached_now : (backend : BackendParts) (history : List Entry) (receipts : List (ℕ × Entry)) (desk : DeskView)
    → StandsAt backend history desk → IsSound history receipts → IsReached backend receipts desk
reached_now backend history receipts desk at sound = record { history = history; stands = at; stand = sound.0; rise = sound.1 }

-- a sight of the history is one of the desk at its end
pub sees_now : (backend : BackendParts) (history : List Entry) (old new : PassView Entry) (desk : DeskView)
    → StandsAt backend history desk → IsSound history old.receipts → new ≡ with_sight old history → SeesDesk backend old desk new
unfolding reached_now
sees_now backend history old new desk at sound saw = record {
  reached = reached_now backend history old.receipts desk at sound;
  sight = saw;
  keeper = ap (λ (p : PassView Entry). p.keeper) saw;
}

-- the desk of a number is that of the same number
pub sees_as : (opening : ℕ → BackendParts) (n m : ℕ) (old new : PassView Entry) (Is : DeskView → Type 0) → n ≡ m
    → Sees (opening n) old Is new → Sees (opening m) old Is new
sees_as opening n m old new Is same sees = subst (λ (k : ℕ). Sees (opening k) old Is new) same sees

-- an event leaves the journal its size
pub same_size : (old new : DeskView) (event : Event) (reply : Reply) → Takes old event reply new → new.journal.capacity ≡ old.journal.capacity
same_size old new event reply takes = ap (λ (t : TailView Entry). t.capacity) takes.journal

-- and so do two in one go
pub same_size_by_plan : (old new : DeskView) (taken : TakenPlan) → TakesPlan old taken new → new.journal.capacity ≡ old.journal.capacity
same_size_by_plan old new taken takes =
    same_size takes.plans.between new (Install takes.plans.plan) (Installed taken.score) takes.plans.install
    ∙ same_size old takes.plans.between Snapshot (Sheet takes.plans.sheet) takes.plans.snapshot

-- behind two events in one go it stands at the history with both entries
pub stands_by_plan : (backend : BackendParts) (history : List Entry) (old new : DeskView) (taken : TakenPlan)
    → StandsAt backend history old → TakesPlan old taken new
    → StandsAt backend ((history ++ taken.snapshot ∷ []) ++ taken.install ∷ []) new
stands_by_plan backend history old new taken at takes =
    let first = takes.plans.snapshot.log backend history at in
    rw (takes.first, takes.second) (takes.plans.install.log backend _ first)

-- the receipts of both events, each of which is the next step
pub adds_plan : (backend : BackendParts) (history : List Entry) (old between new : PassView Entry) (was now : DeskView) (taken : TakenPlan) (one two : ℕ)
    → StandsAt backend history was → TakesPlan was taken now → one ≡ length history → two ≡ length (history ++ taken.snapshot ∷ [])
    → IsSound history old.receipts → between ≡ with_receipt old (one, taken.snapshot)
    → IsSound (history ++ taken.snapshot ∷ []) between.receipts → new ≡ with_receipt between (two, taken.install)
    → AddsPlan backend old taken.score new
adds_plan backend history old between new was now taken one two at takes is_one is_two sound first still second =
    let sheet : Entry = entry Snapshot (Sheet takes.plans.sheet) in
    let longer : StandsAt backend (history ++ sheet ∷ []) takes.plans.between = takes.plans.snapshot.log backend history at in
    let number : two ≡ length (history ++ sheet ∷ []) = is_two ∙ ap (λ (e : Entry). length (history ++ e ∷ [])) takes.first in
    let still_first : between.keeper ≡ old.keeper = ap (λ (p : PassView Entry). p.keeper) first in
    let still_second : new.keeper ≡ between.keeper = ap (λ (p : PassView Entry). p.keeper) second in
    record {
      sheet = takes.plans.sheet;
      plan = takes.plans.plan;
      fit = takes.plans.plans.fit;
      between = between;
      snapshot = record {
        number = one;
        keeper = still_first;
        receipt = first ∙ ap (λ (e : Entry). with_receipt old (one, e)) takes.first;
        step = is_step backend history old.receipts was takes.plans.between one Snapshot (Sheet takes.plans.sheet) at sound takes.plans.snapshot is_one;
      };
      install = record {
        number = two;
        keeper = still_second;
        receipt = second ∙ ap (λ (e : Entry). with_receipt between (two, e)) takes.second;
        step =
            is_step backend (history ++ sheet ∷ []) between.receipts takes.plans.between now two (Install takes.plans.plan) (Installed taken.score)
            longer (subst (λ (e : Entry). IsSound (history ++ e ∷ []) between.receipts) takes.first still) takes.plans.install number;
      };
      at_once = omega (arith, length-append history (taken.snapshot ∷ []));
      keeper = still_second ∙ still_first;
    }

abbrev fault_by : Bool → Bool → Option CloseFault
fault_by a b = if a then Some PassesOut else (if b then Some SlotsOut else None)

no_fault : (a b : Bool) → fault_by a b ≡ None → b ≡ false
no_fault true b is = absurd cc
no_fault false true is = absurd cc
no_fault false false is = refl

-- where nothing speaks against closing, no connection is open
pub none_are_open : (tied : TiedView) (passes : ℕ) → fault_of tied passes ≡ None → open_connections tied.desk.shown ≡ 0
none_are_open tied passes is =
    let none : nat_lt 0 (open_connections tied.desk.shown) ≡ false = no_fault (nat_lt passes tied.keeper.passes) (nat_lt 0 (open_connections tied.desk.shown)) is in
    grind (arith, nat_tests)

-- what is left of a desk whose passes share out its history
pub closes_of : (backend : BackendParts) (history : List Entry) (desk : DeskView) (passes : List (PassView Entry)) (rising : Bool)
    → StandsAt backend history desk → KeepsHeadline desk → Shares history (receipts_of passes) → Each (IsBeginningOf history) (sights_of passes) → open_connections desk.shown ≡ 0 → rising ≡ true
    → Closes backend passes (record { journal = desk.journal; rising = rising })
closes_of backend history desk passes rising at keeps shares early none rises = record {
  history = history;
  end = at.reaches.state;
  steps = at.reaches.history;
  journal = at.end;
  receipts = shares;
  sights = early;
  none_open = ap open_connections at.reaches.is ∙ none;
  headline = λ early late plan reply is. keeps backend history at early late plan reply is;
  none_bad = none_is_bad backend history at.reaches.state at.reaches.history;
  rising = rises;
}
