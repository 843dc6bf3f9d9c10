-- When a condition holds: HAProxy Configuration Manual 2.8, section 7.2 ("Using ACLs to form conditions").
use Rattle.std.specs.Prelude.{Bool, not, List, if◌then◌else◌}
use Rattle.std.specs.List.{list_any, list_all}
use Rattle.lb_acl.specs.declared.cond.Polarity.{Polarity}
use Rattle.lb_acl.specs.declared.cond.Polarity.TheVariants.{If, Unless}
use Rattle.lb_acl.specs.HeadView.{HeadView}
use Rattle.lb_acl.specs.TermView.{TermView}
use Rattle.lb_acl.specs.CondView.{CondView}
use Rattle.lb_acl.specs.Acls.{acl_holds}

-- the ACL holds, or under `!` it doesn't
abbrev pub term_holds : HeadView → TermView → Bool
term_holds head term = if term.is_negated then not (acl_holds term.lines head) else acl_holds term.lines head

-- each test holds
abbrev pub all_hold : HeadView → List TermView → Bool
all_hold head terms = list_all (term_holds head) terms

-- each test of one alternative holds
abbrev pub some_alternative_holds : HeadView → List (List TermView) → Bool
some_alternative_holds head alternatives = list_any (all_hold head) alternatives

-- `if` asks that an alternative holds, `unless` that none does
abbrev pub is_asked : Polarity → Bool → Bool
is_asked If holds = holds
is_asked Unless holds = not holds

-- what stands behind `if` or `unless` lets the rule apply
unfoldable pub cond_holds : HeadView → CondView → Bool
cond_holds head cond = is_asked cond.polarity (some_alternative_holds head cond.alternatives)
