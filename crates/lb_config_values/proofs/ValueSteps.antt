-- Values said one line after another.
use Rattle.std.proofs.Common.{◌≡◌, ℕ, Bool, true, false, ◌||◌, List, [], ◌∷◌, Option, Some, None, refl, sym, ap, ◌∙◌}
use Rattle.lb_config_lines.specs.declared.setting.Setting.{Setting}
use Rattle.lb_config_lines.specs.declared.setting.Setting.TheVariants as Set
use Rattle.lb_config_keywords.specs.declared.second_word.Timeout.TheVariants as Time
use Rattle.lb_config_sections.specs.declared.config_section.NumberedSetting.{NumberedSetting}
use Rattle.lb_config_values.specs.GlobalsView.{GlobalsView}
use Rattle.lb_config_values.specs.declared.proxy_values.ProxyValues.{ProxyValues}
use Rattle.std.specs.List.{cons_option, last_or}
use Rattle.std.specs.Option.{option_or}
use Rattle.lb_config_values.specs.Values.{last_said, said, values_behind, with_setting, globals_behind, with_global}

or-true : (a b : Bool) → (a || (true || b)) ≡ (true || b)
or-true false b = refl
or-true true b = refl

last_first : {A : Type 0} (before one : Option A) (more : List A) → last_or before (cons_option one more) ≡ last_or (option_or one before) more
last_first before None more = refl
last_first before (Some x) more = refl

last_some : {A : Type 0} (x : A) (xs : List A) (before : Option A) → option_or (last_or (Some x) xs) before ≡ last_or (Some x) xs
last_some x [] before = refl
last_some x (y ∷ ys) before = last_some y ys before

-- the last one, or what was before
last_before : {A : Type 0} (before : Option A) (xs : List A) → last_or before xs ≡ option_or (last_or None xs) before
last_before before [] = refl
last_before before (x ∷ xs) = sym (last_some x xs before)

-- what settings that are found to say a value, or not to, leave of what was said before
pub said_behind : {A : Type 0} (before found : Option A) (value : Setting → Option A) (settings : List NumberedSetting) → found ≡ last_said None value settings →
    last_said before value settings ≡ option_or found before
said_behind before found value settings is = last_before before (said value settings) ∙ ap (λ last. option_or last before) (sym is)

-- one line, of which the value may be said
pub said_step : {A : Type 0} (before : Option A) (value : Setting → Option A) (numbered : NumberedSetting) (more : List NumberedSetting) →
    last_said before value (numbered ∷ more) ≡ last_said (option_or (value numbered.setting) before) value more
said_step before value numbered more = last_first before (value numbered.setting) (said value more)

-- one line of a proxy
values_first : (values : ProxyValues) (line : ℕ) (setting : Setting) (more : List NumberedSetting) →
    values_behind values (record { line = line; setting = setting } ∷ more) ≡ values_behind (with_setting values setting) more
values_first values line (Set.Timeout Time.Client millis) more = refl
values_first values line (Set.Timeout Time.Connect millis) more = refl
values_first values line (Set.Timeout Time.Server millis) more = refl
values_first values line (Set.Timeout Time.Queue millis) more = refl
values_first values line (Set.Timeout Time.Check millis) more = refl
values_first values line Set.AllBackups more = rw (or-true values.all_backups) refl
values_first values line Set.Evacuate more = rw (or-true values.evacuate) refl
values_first values line Set.ForwardFor more = rw (or-true values.forward_for) refl
values_first values line (Set.StatsSocket x) more = refl
values_first values line (Set.Relays x) more = refl
values_first values line (Set.Tries x) more = refl
values_first values line (Set.Journal x) more = refl
values_first values line Set.HttpMode more = refl
values_first values line (Set.Balance x) more = refl
values_first values line (Set.HttpCheck x) more = refl
values_first values line (Set.Bind x) more = refl
values_first values line (Set.Acl x) more = refl
values_first values line (Set.UseBackend x) more = refl
values_first values line (Set.DefaultBackend x) more = refl
values_first values line (Set.StickTable x) more = refl
values_first values line (Set.StickOn x) more = refl
values_first values line (Set.UseServer x) more = refl
values_first values line (Set.PinCost x) more = refl
values_first values line (Set.DefaultServer x) more = refl
values_first values line (Set.Server x) more = refl

pub values_step : (values : ProxyValues) (numbered : NumberedSetting) (more : List NumberedSetting) →
    values_behind values (numbered ∷ more) ≡ values_behind (with_setting values numbered.setting) more
values_step values numbered more = values_first values numbered.line numbered.setting more

-- one line of `global`
globals_first : (values : GlobalsView) (line : ℕ) (setting : Setting) (more : List NumberedSetting) →
    globals_behind values (record { line = line; setting = setting } ∷ more) ≡ globals_behind (with_global values setting) more
globals_first values line (Set.Timeout which x) more = refl
globals_first values line Set.AllBackups more = refl
globals_first values line Set.Evacuate more = refl
globals_first values line Set.ForwardFor more = refl
globals_first values line (Set.StatsSocket x) more = refl
globals_first values line (Set.Relays x) more = refl
globals_first values line (Set.Tries x) more = refl
globals_first values line (Set.Journal x) more = refl
globals_first values line Set.HttpMode more = refl
globals_first values line (Set.Balance x) more = refl
globals_first values line (Set.HttpCheck x) more = refl
globals_first values line (Set.Bind x) more = refl
globals_first values line (Set.Acl x) more = refl
globals_first values line (Set.UseBackend x) more = refl
globals_first values line (Set.DefaultBackend x) more = refl
globals_first values line (Set.StickTable x) more = refl
globals_first values line (Set.StickOn x) more = refl
globals_first values line (Set.UseServer x) more = refl
globals_first values line (Set.PinCost x) more = refl
globals_first values line (Set.DefaultServer x) more = refl
globals_first values line (Set.Server x) more = refl

pub globals_step : (values : GlobalsView) (numbered : NumberedSetting) (more : List NumberedSetting) →
    globals_behind values (numbered ∷ more) ≡ globals_behind (with_global values numbered.setting) more
globals_step values numbered more = globals_first values numbered.line numbered.setting more
