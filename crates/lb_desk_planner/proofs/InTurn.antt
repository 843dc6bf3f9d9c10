-- One evacuation more.
use Rattle.std.proofs.Common.{◌≡◌, ℕ, Bool, true, List, [], ◌∷◌, ◌++◌, Result, refl, ap, ◌∙◌, subst}
use Rattle.lb_desk_ports.specs.declared.refused.Refused.{Refused}
use Rattle.lb_desk_ports.specs.Calls.{counted}
use Rattle.lb_desk_evacuate.specs.declared.evacuating.Evacuation.{Evacuation}
use Rattle.lb_desk_planner.specs.Told.{heard_after, Ledger, EvacuatesAsTold, EvacuatesInTurn, PlansAsTold}

pub heard_one : (old new : ℕ) (more : Bool) → more ≡ true → new ≡ heard_after old more → new ≡ counted old
heard_one old new more came is = is ∙ ap (heard_after old) came

in_turn_snoc : (tries : ℕ) (answers : List (Result Evacuation Refused)) (answer : Result Evacuation Refused) (old mid new : Ledger)
    → EvacuatesInTurn tries answers old mid → EvacuatesAsTold tries answer mid new → EvacuatesInTurn tries (answers ++ answer ∷ []) old new
in_turn_snoc tries [] answer old mid new same last =
    (new, subst (λ (l : Ledger). EvacuatesAsTold tries answer l new) same last, refl)
in_turn_snoc tries (a ∷ answers) answer old mid new turns last =
    (turns.0, turns.1, in_turn_snoc tries answers answer turns.0 mid new turns.2 last)

pub one_more_told : (tries : ℕ) (answer : Result Evacuation Refused) (old mid new : Ledger)
    → PlansAsTold tries old mid → EvacuatesAsTold tries answer mid new → PlansAsTold tries old new
one_more_told tries answer old mid new told last =
    (told.0 ++ answer ∷ [], in_turn_snoc tries told.0 answer old mid new told.1 last)
