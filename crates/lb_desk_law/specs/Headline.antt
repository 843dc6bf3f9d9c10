-- What every install of every history is. An install is a plan's event with its reply, the state before it and the state
-- after it; the state before it is the end of a history of some backend.
use Rattle.std.specs.Prelude.{◌≡◌, ◌≢◌, ◌↔◌, ℕ, Option, List, map, AllPairs, Err}
use Rattle.pin_set.specs.declared.totals.Score.{Score}
use Rattle.pin_set.specs.Assignments.{IsLawful, IsBest}
use Rattle.pin_set.specs.Rows.{Agrees, score_of}
use Rattle.pin_set.specs.Views.{kinds_of, capacities}
use Rattle.dual_cert_plan.specs.Plans.{PlanParts}
use Rattle.cert_check.specs.declared.fault.CheckFault.{CheckFault}
use Rattle.lb_desk_model.specs.declared.entry.Entry.{Entry}
use Rattle.lb_desk_model.specs.declared.event.Event.TheVariants.{Install}
use Rattle.lb_desk_model.specs.declared.reply.Reply.{Reply}
use Rattle.lb_desk_model.specs.declared.reply.Reply.TheVariants.{Installed, Refused}
use Rattle.lb_desk_model.specs.declared.reply.Refusal.TheVariants.{Stale, Bad}
use Rattle.lb_desk_model.specs.Backends.{BackendParts}
use Rattle.lb_desk_model.specs.Histories.{History, Changed}
use Rattle.lb_desk_model.specs.Installs.{Judges}
use Rattle.lb_desk_model.specs.States.{State, opening, view_of}
use Rattle.lb_desk_model.specs.Steps.{Step}

-- where the pins are
abbrev pub places_of : State → List (Option ℕ)
places_of state = map (λ p. p.pin.place) state.pins

-- it holds of each install of each history
abbrev pub OfEachInstall : (State → PlanParts → Reply → State → Type 0) → Type 0
OfEachInstall P = (backend : BackendParts) (entries : List Entry) (old : State) (plan : PlanParts) (reply : Reply) (new : State)
    → History (opening backend) entries old → Step old (Install plan) reply new → P old plan reply new

-- the reply is Stale exactly where the plan has another version than the table, and then nothing changes
pub record IsStaleExactly (old : State) (plan : PlanParts) (reply : Reply) (new : State) : Type 0 where
  pub exact : (reply ≡ Refused Stale) ↔ (plan.version ≢ old.version)
  pub unchanged : reply ≡ Refused Stale → new ≡ old

-- it holds of each install of each history, and of each point of that history before it
abbrev pub SinceEachPoint : ((point : State) (entries : List Entry) (old : State) → History point entries old → PlanParts → Reply → Type 0) → Type 0
SinceEachPoint P = (backend : BackendParts) (early late : List Entry) (point old : State) (plan : PlanParts) (reply : Reply) (new : State)
    → History (opening backend) early point → (since : History point late old) → Step old (Install plan) reply new
    → P point late old since plan reply

-- where the plan has the version of the point, the reply is Stale exactly where some step since then changed the view
abbrev pub IsStaleOnceChanged : (point : State) (entries : List Entry) (old : State) → History point entries old → PlanParts → Reply → Type 0
IsStaleOnceChanged point entries old since plan reply =
    plan.version ≡ point.version → (reply ≡ Refused Stale) ↔ Changed point entries old since

-- what stays the same under a plan, and where the pins go
pub record IsMoved (old : State) (plan : PlanParts) (new : State) : Type 0 where
  pub names : map (λ p. p.pin.id) new.pins ≡ map (λ p. p.pin.id) old.pins
  pub once : AllPairs (λ p q. p.pin.id ≢ q.pin.id) new.pins
  pub last_uses : map (λ p. p.last_use) new.pins ≡ map (λ p. p.last_use) old.pins
  pub costs : map (λ p. p.pin.cost) new.pins ≡ map (λ p. p.pin.cost) old.pins
  pub others : new ≡ record old { pins = new.pins; version = new.version }
  pub agrees : Agrees plan.rows (kinds_of (view_of old)) (places_of new)

-- an installed plan keeps each pin once, in its order; nothing else changes but places and version; the new places agree with
-- the plan
abbrev pub KeepsPins : State → PlanParts → Reply → State → Type 0
KeepsPins old plan reply new = (score : Score) → reply ≡ Installed score → IsMoved old plan new

-- an installed plan keeps the pins on permitted servers or none, and the servers within their capacities
abbrev pub IsLawfulThen : State → PlanParts → Reply → State → Type 0
IsLawfulThen old plan reply new = (score : Score) → reply ≡ Installed score
    → IsLawful (capacities (view_of old)) (kinds_of (view_of old)) (places_of new)

-- an installed plan is best for the view that it met, and the reply is its score
abbrev pub IsBestThen : State → PlanParts → Reply → State → Type 0
IsBestThen old plan reply new = (score : Score) → reply ≡ Installed score
    → IsBest (capacities (view_of old)) (kinds_of (view_of old)) (places_of new)
    × (score ≡ score_of (kinds_of (view_of old)) (places_of new))

-- where the versions are equal, a plan is refused exactly as the check refuses it, and then nothing changes
abbrev pub IsBadExactly : State → PlanParts → Reply → State → Type 0
IsBadExactly old plan reply new = (fault : CheckFault)
    → (plan.version ≡ old.version → (reply ≡ Refused (Bad fault)) ↔ Judges old plan (Err fault))
    × (reply ≡ Refused (Bad fault) → new ≡ old)
