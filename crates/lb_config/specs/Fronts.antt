-- Which backend a request goes to: HAProxy Configuration Manual 2.8, section 4.2 (`use_backend`, `default_backend`).
use Rattle.std.specs.Prelude.{ℕ, Option}
use Rattle.std.specs.Option.{option_or}
use Rattle.lb_acl.specs.HeadView.{HeadView}
use Rattle.lb_config_rules.specs.Choices.{chosen}
use Rattle.lb_config.specs.ConfigViews.{FrontendView}

-- the backend of the first rule that applies, else the default
abbrev pub backend_of : FrontendView → HeadView → Option ℕ
backend_of frontend head = option_or (chosen head frontend.rules.choices) frontend.default_backend
