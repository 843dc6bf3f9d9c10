-- Each line of an ACL is kept.
use Rattle.std.proofs.Common.{◌≡◌, ℕ, ◌+◌, Bool, true, false, cond, List, [], ◌∷◌, length, Some, None, count_by, refl, sym, ◌∙◌, arith, bytes_eq}
use Rattle.std.proofs.lemmas.List.Sums.{sum_by-cons}
use Rattle.std.specs.List.{cons_option}
use Rattle.lb_acl.specs.declared.acl.AclLine.{AclLine}
use Rattle.lb_config_conditions.specs.declared.rules.AclDeclaration.{AclDeclaration}
use Rattle.lb_config_lines.specs.declared.setting.Setting.{Setting}
use Rattle.lb_config_lines.specs.declared.setting.Setting.TheVariants as Set
use Rattle.lb_config_rules.specs.Parts.{acl_in, all_in}
use Rattle.lb_config_rules.specs.Rules.{lines_named}
use Rattle.lb_config_sections.specs.declared.config_section.NumberedSetting.{NumberedSetting}
use Rattle.lb_config_whole.specs.Whole.{is_line_of}

-- a line more of the ACL, or of another one
one_more : (mine : Bool) (line : AclLine) (rest : List AclLine) (count : ℕ) → length rest ≡ count →
    length (cons_option (cond mine (Some line) None) rest) ≡ cond mine 1 0 + count
one_more true line rest count e = omega (arith, e)
one_more false line rest count e = omega (arith, e)

setting_more : (name : List ℕ) (setting : Setting) (more : List AclDeclaration) (count : ℕ) → length (lines_named more name) ≡ count →
    length (lines_named (cons_option (acl_in setting) more) name) ≡ cond (is_line_of name setting) 1 0 + count
setting_more name (Set.Acl acl) more count e = one_more (bytes_eq acl.name name) acl.line (lines_named more name) count e
setting_more name _ more count e = omega (arith, e)

pub lines_kept : (name : List ℕ) (settings : List NumberedSetting) →
    length (lines_named (all_in acl_in settings) name) ≡ count_by (λ numbered. is_line_of name numbered.setting) settings
lines_kept name [] = refl
lines_kept name (numbered ∷ more) =
    setting_more name numbered.setting (all_in acl_in more) (count_by (λ (one : NumberedSetting). is_line_of name one.setting) more) (lines_kept name more)
    ∙ sym (sum_by-cons (λ (one : NumberedSetting). cond (is_line_of name one.setting) 1 0) numbered more)
