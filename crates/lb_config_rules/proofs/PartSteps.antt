-- A section's lines told apart one after another.
use Rattle.std.proofs.Common.{◌≡◌, ℕ, List, [], ◌∷◌, ◌++◌, refl, sym, ◌∙◌}
use Rattle.std.proofs.lemmas.List.{append_assoc, append-nil}
use Rattle.lb_config_lines.specs.declared.setting.Setting.{Setting}
use Rattle.lb_config_lines.specs.declared.setting.Setting.TheVariants as Set
use Rattle.lb_config_sections.specs.declared.config_section.NumberedSetting.{NumberedSetting}
use Rattle.lb_config_rules.specs.Parts.{acl_in, all_in, backend_rule_in, cost_rule_in, no_parts, parts_behind, parts_of, server_rule_in, with_part, with_parts}
use Rattle.lb_config_rules.specs.PartsView.{PartsView}

parts_first : (parts : PartsView) (line : ℕ) (setting : Setting) (more : List NumberedSetting) →
    parts_behind parts (record { line = line; setting = setting } ∷ more) ≡ parts_behind (with_part parts setting) more
parts_first parts line (Set.Acl x) more = rw (append_assoc parts.acls (x ∷ []) (all_in acl_in more)) refl
parts_first parts line (Set.Bind x) more = refl
parts_first parts line (Set.UseBackend x) more = rw (append_assoc parts.backend_rules (x ∷ []) (all_in backend_rule_in more)) refl
parts_first parts line (Set.UseServer x) more = rw (append_assoc parts.server_rules (x ∷ []) (all_in server_rule_in more)) refl
parts_first parts line (Set.PinCost x) more = rw (append_assoc parts.cost_rules (x ∷ []) (all_in cost_rule_in more)) refl
parts_first parts line (Set.StickTable x) more = refl
parts_first parts line (Set.StickOn x) more = refl
parts_first parts line (Set.StatsSocket x) more = refl
parts_first parts line (Set.Relays x) more = refl
parts_first parts line (Set.Tries x) more = refl
parts_first parts line (Set.Journal x) more = refl
parts_first parts line Set.HttpMode more = refl
parts_first parts line (Set.Timeout which x) more = refl
parts_first parts line (Set.Balance x) more = refl
parts_first parts line (Set.HttpCheck x) more = refl
parts_first parts line Set.AllBackups more = refl
parts_first parts line Set.Evacuate more = refl
parts_first parts line Set.ForwardFor more = refl
parts_first parts line (Set.DefaultBackend x) more = refl
parts_first parts line (Set.DefaultServer x) more = refl
parts_first parts line (Set.Server x) more = refl

parts_step : (parts : PartsView) (numbered : NumberedSetting) (more : List NumberedSetting) →
    parts_behind parts (numbered ∷ more) ≡ parts_behind (with_part parts numbered.setting) more
parts_step parts numbered more = parts_first parts numbered.line numbered.setting more

parts_end : (parts : PartsView) → parts_behind parts [] ≡ parts
parts_end parts =
    rw (append-nil parts.acls, append-nil parts.backend_rules, append-nil parts.server_rules, append-nil parts.cost_rules) refl

parts_all : (parts : PartsView) (settings : List NumberedSetting) → with_parts parts settings ≡ parts_behind parts settings
parts_all parts [] = sym (parts_end parts)
parts_all parts (numbered ∷ more) = parts_all (with_part parts numbered.setting) more ∙ sym (parts_step parts numbered more)

-- one line more
pub parts_more : (parts : PartsView) (settings : List NumberedSetting) (numbered : NumberedSetting) →
    with_parts parts (settings ++ numbered ∷ []) ≡ with_part (with_parts parts settings) numbered.setting
parts_more parts [] numbered = refl
parts_more parts (first ∷ more) numbered = parts_more (with_part parts first.setting) more numbered

-- all lines
pub parts_are : (settings : List NumberedSetting) → with_parts no_parts settings ≡ parts_of settings
parts_are settings = parts_all no_parts settings
