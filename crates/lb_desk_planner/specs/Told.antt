-- What a planner does that is told by notices: evacuations, one after another. Our own words.
use Rattle.std.specs.Prelude.{◌≡◌, ℕ, Bool, List, [], ◌∷◌, Result, if◌then◌else◌}
use Rattle.lb_desk_model.specs.declared.entry.Entry.{Entry}
use Rattle.lb_desk_ports.specs.declared.refused.Refused.{Refused}
use Rattle.lb_desk_ports.specs.Calls.{counted}
use Rattle.lb_desk_evacuate.specs.declared.evacuating.Evacuation.{Evacuation}
use Rattle.lb_desk_evacuate.specs.Evacuations.{Evacuates, CountsRefusal}

-- what is told of a planner and its mover
pub record Ledger : Type 0 where
  -- how many notices the planner has heard
  pub heard : ℕ
  -- the mover's entries, how often it was asked to plan while all others wait, and how many of its calls were refused
  pub entries : List Entry
  pub planned_now : ℕ
  pub refusals : ℕ

abbrev pub ledger : ℕ → List Entry → ℕ → ℕ → Ledger
ledger heard entries planned_now refusals =
    record { heard = heard; entries = entries; planned_now = planned_now; refusals = refusals }

-- how many notices were heard, after a look for one more
abbrev pub heard_after : ℕ → Bool → ℕ
heard_after heard more = if more then counted heard else heard

-- a notice was heard, and an evacuation with at most so many tries was made, with this answer
pub record EvacuatesAsTold (tries : ℕ) (answer : Result Evacuation Refused) (old new : Ledger) : Type 0 where
  pub heard : new.heard ≡ counted old.heard
  pub evacuates : Evacuates tries answer old.entries new.entries old.planned_now new.planned_now
  pub refusals : CountsRefusal answer old.refusals new.refusals

-- evacuations with these answers, each from where the one before it ended, and nothing else
abbrev pub EvacuatesInTurn : ℕ → List (Result Evacuation Refused) → Ledger → Ledger → Type 0
EvacuatesInTurn tries [] old new = new ≡ old
EvacuatesInTurn tries (answer ∷ answers) old new =
    (mid : Ledger) × EvacuatesAsTold tries answer old mid × EvacuatesInTurn tries answers mid new

-- one evacuation for each notice
abbrev pub PlansAsTold : ℕ → Ledger → Ledger → Type 0
PlansAsTold tries old new = (answers : List (Result Evacuation Refused)) × EvacuatesInTurn tries answers old new
