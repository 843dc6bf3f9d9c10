-- Lines taken one after another.
use Rattle.std.proofs.Common.{◌≡◌, ℕ, ◌+◌, ◌<◌, ◌≤◌, List, [], ◌∷◌, Ok, Err, length, get_or, drop, refl, sym, ap, ◌∙◌}
use Rattle.std.specs.Prelude.{Result}
use Rattle.std.proofs.lemmas.List.{drop_all, at_drop_more}
use Rattle.lb_config_words.specs.LineView.{LineView}
use Rattle.lb_config_sections.specs.declared.cause.ConfigFault.{ConfigFault}
use Rattle.lb_config_sections.specs.declared.cause.ConfigFault.TheVariants as faults
use Rattle.lb_config_sections.specs.declared.cause.LocatedFault.{LocatedFault}
use Rattle.lb_config_sections.specs.Causes.{Fails, ◌>>=◌}
use Rattle.lb_config_sections.specs.SectionsSoFarView.{SectionsSoFarView}
use Rattle.lb_config_sections.specs.SectionsSoFar.{take_line, lines_behind}

-- the next line, and those behind it
pub line_at : (draft : SectionsSoFarView) (lines : List LineView) (i : ℕ) (line : LineView) → i < length lines → line ≡ get_or lines i line →
    lines_behind draft (drop i lines) ≡ (take_line draft line >>= λ next. lines_behind next (drop (i + 1) lines))
unfolding lines_behind
line_at draft lines i line within is =
    at_drop_more (λ rest. lines_behind draft rest) lines i line within ∙ ap (λ first. lines_behind draft (first ∷ drop (i + 1) lines)) (sym is)

-- no line is left
pub lines_end : (draft : SectionsSoFarView) (lines : List LineView) (i : ℕ) → length lines ≤ i → lines_behind draft (drop i lines) ≡ Ok draft
unfolding lines_behind
lines_end draft lines i past = ap (λ rest. lines_behind draft rest) (drop_all i lines past)

-- what fails in the first step fails in both
pub Fails-bind : {A B : Type 0} (e : ConfigFault) (r : Result A LocatedFault) (f : A → Result B LocatedFault) → Fails e r → Fails e (r >>= f)
Fails-bind faults.Memory r f fails = tt
Fails-bind (faults.Fault fault) r f fails = rw fails refl
