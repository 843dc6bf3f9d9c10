-- What calls add to a seat's entries.
use Rattle.std.proofs.Common.{◌≡◌, ℕ, List, [], ◌∷◌, ◌++◌, Result, Ok, Err, IfOk, OnErr, true, refl, sym, ap, ◌∙◌, append-nil, append_assoc}
use Rattle.std.specs.Prelude.{⊤}
use mathlib.Core.List.{map-append}
use Rattle.pin_set.specs.declared.totals.Score.{Score}
use Rattle.lb_desk_model.specs.declared.entry.Entry.{Entry}
use Rattle.lb_desk_model.specs.declared.event.Event.{Event}
use Rattle.lb_desk_model.specs.declared.event.Event.TheVariants.{Serve, Open, Close, Expire, Snapshot, Install}
use Rattle.lb_desk_model.specs.declared.event.Request.{Request}
use Rattle.lb_desk_model.specs.declared.reply.Refusal.TheVariants.{NoSuchServer, NoServer}
use Rattle.lb_desk_model.specs.declared.reply.Reply.{Reply}
use Rattle.lb_desk_model.specs.declared.reply.Reply.TheVariants.{Served, Expired, Refused, Sheet, Installed}
use Rattle.lb_desk_model.specs.Backends.{BackendParts}
use Rattle.lb_desk_model.specs.States.{State}
use Rattle.lb_desk_model.specs.Steps.{Does}
use Rattle.lb_desk_ports.specs.declared.replies.Asked.{Asked}
use Rattle.lb_desk_ports.specs.declared.refused.Refused.{Refused as Refusal}
use Rattle.lb_desk_ports.specs.declared.replies.Opening.{Opening}
use Rattle.lb_desk_ports.specs.declared.replies.Shut.{Shut}
use Rattle.lb_desk_ports.specs.Calls.{entry}
use Rattle.lb_desk_ports.specs.Movers.{PlansNow}
use Rattle.lb_desk_ports.specs.Ports.{AddsAsk, asked_reply, opening_entries, opening_reply, shut_reply, shutting_entries}
use Rattle.lb_desk_tie.specs.Receipts.{PassView}
use Rattle.lb_desk_shared.specs.Calls.{AddsPlan, AddsStep, entries_of}
use Rattle.lb_desk_shared.specs.Desks.{Sees}
use Rattle.lb_desk_step.specs.Desk.{DeskView, is_worn_for}
use Rattle.lb_desk_steer.specs.Steering.{AddsAt, KeepsSights}
use Rattle.lb_desk_seat.specs.Replies.{Answers, asked_of}

-- a step adds its entry
pub step_adds : (backend : BackendParts) (old new : PassView Entry) (event : Event) (reply : Reply) → AddsStep backend old event reply new
    → entries_of new.receipts ≡ entries_of old.receipts ++ entry event reply ∷ []
step_adds backend old new event reply adds =
    ap (λ (p : PassView Entry). entries_of p.receipts) adds.receipt
    ∙ map-append (λ (r : ℕ × Entry). r.1) old.receipts ((adds.number, entry event reply) ∷ [])

-- a sight adds none
pub kept_by_sight : (backend : BackendParts) (old new : PassView Entry) (Is : DeskView → Type 0) → Sees backend old Is new
    → entries_of new.receipts ≡ entries_of old.receipts
kept_by_sight backend old new Is sees = ap (λ (p : PassView Entry). entries_of p.receipts) sees.1.sight

none_added : (backend : BackendParts) (old new : PassView Entry) (Is : DeskView → Type 0) → Sees backend old Is new
    → entries_of new.receipts ≡ entries_of old.receipts ++ []
none_added backend old new Is sees = kept_by_sight backend old new Is sees ∙ sym (append-nil (entries_of old.receipts))

-- ---- sights

-- a step leaves them, and a refusal adds one
pub step_grows : (backend : BackendParts) (old new : PassView Entry) (event : Event) (reply : Reply) → AddsStep backend old event reply new
    → KeepsSights old.sights new.sights
step_grows backend old new event reply adds = ([], ap (λ (p : PassView Entry). p.sights) adds.receipt ∙ sym (append-nil old.sights))

pub sight_grows : (backend : BackendParts) (old new : PassView Entry) (Is : DeskView → Type 0) → Sees backend old Is new → KeepsSights old.sights new.sights
sight_grows backend old new Is sees = (sees.1.reached.history ∷ [], ap (λ (p : PassView Entry). p.sights) sees.1.sight)

pub grows_on : (old mid new : List (List Entry)) → KeepsSights old mid → KeepsSights mid new → KeepsSights old new
grows_on old mid new first second =
    (first.0 ++ second.0, second.1 ∙ ap (λ (l : List (List Entry)). l ++ second.0) first.1 ∙ append_assoc old first.0 second.0)

-- ---- entries

pub opening_adds : {S : Type 0} (backend : BackendParts) (old new : PassView Entry) (server : ℕ) (result : Result (Opening S) Refusal)
    → IfOk result (λ opening. AddsStep backend old (Open server) (opening_reply opening) new)
    → OnErr result (Sees backend old (λ desk. is_worn_for desk (Open server) ≡ true) new)
    → entries_of new.receipts ≡ entries_of old.receipts ++ opening_entries server result
opening_adds backend old new server (Ok opening) step err = step_adds backend old new (Open server) (opening_reply opening) step
opening_adds backend old new server (Err refused) step err = none_added backend old new (λ desk. is_worn_for desk (Open server) ≡ true) err

pub shutting_adds : (backend : BackendParts) (old new : PassView Entry) (server : ℕ) (result : Result Shut Refusal)
    → IfOk result (λ shut. AddsStep backend old (Close server) (shut_reply shut) new)
    → OnErr result (Sees backend old (λ desk. is_worn_for desk (Close server) ≡ true) new)
    → entries_of new.receipts ≡ entries_of old.receipts ++ shutting_entries server result
shutting_adds backend old new server (Ok shut) step err = step_adds backend old new (Close server) (shut_reply shut) step
shutting_adds backend old new server (Err refused) step err = none_added backend old new (λ desk. is_worn_for desk (Close server) ≡ true) err

pub plan_adds : (backend : BackendParts) (old new : PassView Entry) (result : Result Score Refusal)
    → IfOk result (λ score. AddsPlan backend old score new) → OnErr result (Sees backend old (λ desk. ⊤) new)
    → PlansNow (entries_of old.receipts) (entries_of new.receipts) result
plan_adds backend old new (Ok score) plan err =
    let first : Entry = entry Snapshot (Sheet plan.sheet) in
    let second : Entry = entry (Install plan.plan) (Installed score) in (
      plan.sheet,
      plan.plan,
      plan.fit,
      step_adds backend plan.between new (Install plan.plan) (Installed score) plan.install
          ∙ ap (λ (es : List Entry). es ++ second ∷ []) (step_adds backend old plan.between Snapshot (Sheet plan.sheet) plan.snapshot)
          ∙ append_assoc (entries_of old.receipts) (first ∷ []) (second ∷ []),
    )
plan_adds backend old new (Err refused) plan err = kept_by_sight backend old new (λ desk. ⊤) err

-- ---- the two events of a request for a server

does_expire : (old : State) (now : ℕ) (reply : Reply) (new : State) → Does old (Expire now) reply new → (count : ℕ) × (reply ≡ Expired count)
does_expire old now (Expired count) new d = (count, refl)
does_expire old now reply new d = absurd d

-- an event, and before it an expiry at its moment
pub adds_at : (moment : ℕ) (event : Event) (first second : Reply) (old mid new : List Entry)
    → Answers (Expire moment) first → mid ≡ old ++ entry (Expire moment) first ∷ [] → new ≡ mid ++ entry event second ∷ []
    → AddsAt moment event old new (Ok second)
adds_at moment event first second old mid new expires before after =
    let expired = does_expire expires.0 moment first expires.2.acted expires.2.does in
    let expiry : List Entry = entry (Expire moment) (Expired expired.0) ∷ [] in
    let gone : mid ≡ old ++ expiry = before ∙ ap (λ (r : Reply). old ++ entry (Expire moment) r ∷ []) expired.1 in (
      expiry,
      (expired.0, refl),
      after ∙ ap (λ (es : List Entry). es ++ entry event second ∷ []) gone,
    )

does_serve : (old : State) (request : Request) (reply : Reply) (new : State) → Does old (Serve request) reply new
    → asked_reply (asked_of reply) ≡ reply
does_serve old request (Served server how) new d = refl
does_serve old request (Refused NoSuchServer) new d = refl
does_serve old request (Refused NoServer) new d = refl
does_serve old request reply new d = absurd d

pub asked_adds : (request : Request) (first second : Reply) (answer : Asked) (old mid new : List Entry)
    → Answers (Expire request.moment) first → mid ≡ old ++ entry (Expire request.moment) first ∷ []
    → Answers (Serve request) second → new ≡ mid ++ entry (Serve request) second ∷ []
    → answer ≡ asked_of second → AddsAsk request old new (Ok answer)
asked_adds request first second answer old mid new expires before serves after is =
    let expired = does_expire expires.0 request.moment first expires.2.acted expires.2.does in
    let told : second ≡ asked_reply answer = sym (ap asked_reply is ∙ does_serve serves.0 request second serves.2.acted serves.2.does) in
    let expiry : List Entry = entry (Expire request.moment) (Expired expired.0) ∷ [] in
    let gone : mid ≡ old ++ expiry = before ∙ ap (λ (r : Reply). old ++ entry (Expire request.moment) r ∷ []) expired.1 in (
      expiry,
      (expired.0, refl),
      after ∙ ap (λ (es : List Entry). es ++ entry (Serve request) second ∷ []) gone
          ∙ ap (λ (r : Reply). old ++ expiry ++ entry (Serve request) r ∷ []) told,
    )
