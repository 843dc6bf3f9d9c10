-- ACLs by their names, as the reader keeps them. No public clause cites this module: `Rules` says what they mean.
use Rattle.std.specs.Prelude.{ℕ, Bool, List, [], ◌∷◌, ◌++◌, map, if◌then◌else◌}
use Rattle.std.specs.Str.{bytes_eq}
use Rattle.lb_acl.specs.CondView.{CondView}
use Rattle.lb_acl.specs.TermView.{TermView}
use Rattle.lb_acl.specs.declared.acl.AclLine.{AclLine}
use Rattle.lb_config_conditions.specs.UnresolvedCondView.{UnresolvedCondView}
use Rattle.lb_config_conditions.specs.declared.rules.AclDeclaration.{AclDeclaration}
use Rattle.lb_config_conditions.specs.declared.unresolved.UnresolvedAcl.{UnresolvedAcl}
use Rattle.lb_config_conditions.specs.declared.unresolved.UnresolvedAcl.TheVariants.{Named, Anonymous}
use Rattle.lb_config_conditions.specs.declared.unresolved.UnresolvedTerm.{UnresolvedTerm}
use Rattle.lb_config_rules.specs.GroupView.{GroupView}

-- the group is that of the name
abbrev pub is_group : List ℕ → GroupView → Bool
is_group name group = bytes_eq group.name name

-- the group with one line more
abbrev pub grown : GroupView → AclLine → GroupView
grown group line = record { name = group.name; lines = group.lines ++ line ∷ [] }

-- a group of one line
abbrev pub new_group : AclDeclaration → GroupView
new_group acl = record { name = acl.name; lines = acl.line ∷ [] }

-- the groups with one line more, in the group of its name
abbrev pub with_line : List GroupView → AclDeclaration → List GroupView
with_line [] acl = new_group acl ∷ []
with_line (group ∷ more) acl = if is_group acl.name group then grown group acl.line ∷ more else group ∷ with_line more acl

-- the groups with these lines more
abbrev pub with_lines : List GroupView → List AclDeclaration → List GroupView
with_lines groups [] = groups
with_lines groups (acl ∷ more) = with_lines (with_line groups acl) more

-- the lines of the group of the name, or none
abbrev pub lines_in : List GroupView → List ℕ → List AclLine
lines_in [] name = []
lines_in (group ∷ more) name = if is_group name group then group.lines else lines_in more name

-- conditions whose ACLs are looked up among the groups
abbrev pub acl_by : List GroupView → UnresolvedAcl → List AclLine
acl_by groups (Named name) = lines_in groups name
acl_by groups (Anonymous line) = line ∷ []

abbrev pub term_by : List GroupView → UnresolvedTerm → TermView
term_by groups term = record { is_negated = term.is_negated; lines = acl_by groups term.acl }

abbrev pub terms_by : List GroupView → List UnresolvedTerm → List TermView
terms_by groups terms = map (term_by groups) terms

abbrev pub cond_by : List GroupView → UnresolvedCondView → CondView
cond_by groups cond = record { polarity = cond.polarity; alternatives = map (terms_by groups) cond.alternatives }
