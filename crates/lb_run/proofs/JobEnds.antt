-- How the job `run` ends.
use Rattle.std.proofs.Common.{◌≡◌, ℕ, Bool, true, false, List, Option, Some, None, Result, Ok, Err, IfOk, inl, inr, refl, sym, subst}
use Rattle.lb_config.specs.ConfigViews.{ConfigView}
use Rattle.lb_config_sections.specs.declared.cause.LocatedFault.{LocatedFault}
use Rattle.lb_run.specs.Jobs.{HindersByPins, IsConfigText, PrintsFault, Runs, RunsText}

-- what was run without a file of pins was run with any
pub with_pins : {E : Type 0} (r : Result Bool E) (pins : Option (List ℕ)) (config : ConfigView) (out out' err err' : Option (List ℕ))
    → IfOk r (λ is_done. Runs None config is_done out out' err err')
    → IfOk r (λ is_done. Runs pins config is_done out out' err err')
with_pins (Ok true) pins config out out' err err' runs = runs
with_pins (Ok false) None config out out' err err' runs = runs
with_pins (Ok false) (Some path) config out out' err err' runs = inl runs
with_pins (Err e) pins config out out' err err' runs = tt

-- the file of pins isn't read
pub by_pins : {E : Type 0} (r : Result Bool E) (path : List ℕ) (config : ConfigView) (out err err' : Option (List ℕ))
    → IfOk r (λ is_done. HindersByPins path is_done err err')
    → IfOk r (λ is_done. Runs (Some path) config is_done out out err err')
by_pins (Ok is_done) path config out err err' hinders =
    subst (λ (b : Bool). Runs (Some path) config b out out err err') (sym hinders.0) (inr (refl, hinders.1))
by_pins (Err e) path config out err err' hinders = tt

-- the text is this configuration
pub ran : {E : Type 0} (r : Result Bool E) (pins : Option (List ℕ)) (reading : Result ConfigView LocatedFault) (config : ConfigView)
    (out out' err err' : Option (List ℕ)) → reading ≡ Ok config → IfOk r (λ is_done. Runs pins config is_done out out' err err')
    → IfOk r (λ is_done. RunsText pins reading is_done out out' err err')
ran r pins reading config out out' err err' read runs =
    subst (λ (x : Result ConfigView LocatedFault). IfOk r (λ is_done. RunsText pins x is_done out out' err err')) (sym read) runs

-- the text has this fault
pub printed : {E : Type 0} (r : Result Bool E) (pins : Option (List ℕ)) (reading : Result ConfigView LocatedFault) (fault : LocatedFault)
    (out out' err : Option (List ℕ)) → reading ≡ Err fault → IfOk r (λ is_done. PrintsFault fault is_done out out')
    → IfOk r (λ is_done. RunsText pins reading is_done out out' err err)
printed (Ok is_done) pins reading fault out out' err read prints =
    subst (λ (x : Result ConfigView LocatedFault). RunsText pins x is_done out out' err err) (sym read) (prints, refl)
printed (Err e) pins reading fault out out' err read prints = tt

pub is_config : (reading : Result ConfigView LocatedFault) (config : ConfigView) → reading ≡ Ok config → IsConfigText reading
is_config reading config read = subst IsConfigText (sym read) tt
