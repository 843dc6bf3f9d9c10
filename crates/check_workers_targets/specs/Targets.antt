-- Which servers are checked, when and how: HAProxy Configuration Manual 2.8, section 5.2 (`check`, `inter`) and section 4.2 (`timeout
-- check`). Our own: each server is checked for the first time at once, and a check without a limit may take 2^32 - 1 milliseconds.
use Rattle.std.specs.Prelude.{ℕ, ◌+◌, ◌-◌, ◌^◌, List, [], ◌∷◌, ◌++◌, map, Option, unwrap_or}
use Rattle.std.specs.Option.{option_map, option_to_list}
use Rattle.std.specs.declared.net.ipv4_addr.Ipv4Addr.{Ipv4Addr}
use Rattle.lb_config_values.specs.ServerView.{ServerView}
use Rattle.lb_config_values.specs.declared.timeouts.Timeouts.{Timeouts}
use Rattle.lb_config.specs.ConfigViews.{BackendView}
use Rattle.lb_config.specs.Limits.{probe_limit}
use Rattle.check_workers_round.specs.declared.check.Check.{Check}
use Rattle.check_workers_system.specs.declared.target.ProbeTarget.{ProbeTarget}

-- the check of the server at this place, if it is checked
abbrev pub check_at : ℕ → ServerView → Option Check
check_at place server = option_map (λ counts. record { server = place; interval = server.interval; due = 0 }) server.settings.check

-- the checks of the servers from this place on
abbrev pub checks_from : ℕ → List ServerView → List Check
checks_from place [] = []
checks_from place (server ∷ more) = option_to_list (check_at place server) ++ checks_from (place + 1) more

-- the checks of the backend's servers, in the servers' order
abbrev pub checks_of : BackendView → List Check
checks_of backend = checks_from 0 backend.servers

-- how a server is probed: where, with which request, if not connecting is all, and for how many milliseconds
pub record Target : Type 0 where
  pub address : Ipv4Addr
  pub port : ℕ
  pub request : Option (List ℕ)
  pub limit : ℕ

-- a target as contracts see it
abbrev pub target_view : ProbeTarget → Target
target_view target = record { address = target.address; port = target.port; request = target.rule.now; limit = target.limit }

-- how the server is probed, if it is checked
abbrev pub target_at : Timeouts → ServerView → Option Target
target_at timeouts server =
    option_map (λ counts. record {
      address = server.endpoint.address;
      port = server.endpoint.port;
      request = server.check_request;
      limit = unwrap_or (probe_limit timeouts server.interval) (2 ^ 32 - 1);
    }) server.settings.check

-- how each server of the backend is probed, in the servers' order
abbrev pub targets_of : BackendView → List (Option Target)
targets_of backend = map (target_at backend.timeouts) backend.servers
