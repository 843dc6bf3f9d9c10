-- What every configuration keeps: HAProxy Configuration Manual 2.8, sections 3 and 4. The limits are this project's own.
use Rattle.std.specs.Prelude.{ℕ, ◌<◌, List, length, map, IfSome, All}
use Rattle.lb_acl.specs.HeadView.{HeadView}
use Rattle.lb_config_arguments.specs.Ranges.{IsFromTo}
use Rattle.lb_config_limits.specs.declared.declarations.TheConstants.{MAX_BACKENDS}
use Rattle.lb_config_lines.specs.declared.common_line.TheConstants.{MAX_RELAYS, MAX_TRIES}
use Rattle.lb_config_valid.specs.Names.{AreNames}
use Rattle.lb_config_valid.specs.Numbers.{IsSocket}
use Rattle.lb_config.specs.ConfigViews.{BackendView, ConfigView, FrontendView}
use Rattle.lb_config.specs.Fronts.{backend_of}
use Rattle.lb_config.specs.Kept.{IsServers}
use Rattle.lb_config.specs.Ranges.{HasBackRanges, HasFrontRanges}

-- each request of the frontend that goes to a backend goes to one of so many
abbrev pub LeadsWithin : ℕ → FrontendView → Type 0
LeadsWithin count frontend = (head : HeadView) → IfSome (backend_of frontend head) (λ place. place < count)

-- each rule `use-server` of the backend wants one of its servers
abbrev pub WantsOwn : BackendView → Type 0
WantsOwn backend = All (λ rule. rule.server < length backend.servers) backend.rules.use_servers

-- a backend has at most 128 servers with distinct names, and its numbers, times and ports are in their ranges
pub record IsBackend (backend : BackendView) : Type 0 where
  pub servers : IsServers backend.servers
  pub ranges : HasBackRanges backend

-- the names of the backends
abbrev pub names_of : List BackendView → List (List ℕ)
names_of backends = map (λ backend. backend.name) backends

-- numbers, times and ports are in their ranges, backends have names of their own, and the backends and servers that rules name
-- exist
pub record IsConfig (config : ConfigView) : Type 0 where
  pub relays : IsFromTo 1 MAX_RELAYS config.relays
  pub tries : IsFromTo 1 MAX_TRIES config.tries
  pub socket : IfSome config.socket IsSocket
  pub front_ranges : All HasFrontRanges config.frontends
  pub back_ranges : All HasBackRanges config.backends
  pub backends : AreNames MAX_BACKENDS (names_of config.backends)
  pub leads : All (LeadsWithin (length config.backends)) config.frontends
  pub wants : All WantsOwn config.backends
