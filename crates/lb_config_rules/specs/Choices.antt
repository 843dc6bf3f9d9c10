-- Which backend a request goes to: HAProxy Configuration Manual 2.8, section 4.2 (`use_backend`). Rules go in order.
use Rattle.std.specs.Prelude.{ℕ, Bool, true, List, Option, Some, None}
use Rattle.std.specs.List.{find}
use Rattle.std.specs.Option.{option_map}
use Rattle.lb_acl.specs.CondView.{CondView}
use Rattle.lb_acl.specs.Conds.{cond_holds}
use Rattle.lb_acl.specs.HeadView.{HeadView}
use Rattle.lb_config_rules.specs.declared.backend_choice.BackendChoice.{BackendChoice}

-- a rule without a condition always applies
abbrev pub optional_holds : HeadView → Option CondView → Bool
optional_holds head None = true
optional_holds head (Some cond) = cond_holds head cond

abbrev pub applies : HeadView → BackendChoice → Bool
applies head rule = optional_holds head rule.cond

-- the backend of the first rule that applies
abbrev pub chosen : HeadView → List BackendChoice → Option ℕ
chosen head rules = option_map (λ rule. rule.backend) (find (applies head) rules)
