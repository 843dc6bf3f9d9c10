-- A backend as the configuration has it: HAProxy Configuration Manual 2.8, `balance`, `option allbackups`, `stick-table`
-- and section 5.2 (`server`).
use Rattle.std.specs.Prelude.{◌≡◌, ◌≢◌, ◌≤◌, ℕ, Bool, true, false, Option, None, List, [], length, All, AllPairs}
use Rattle.lb_types.specs.declared.limits.TheConstants.{MAX_SERVERS}
use Rattle.lb_types.specs.Names.{is_name}
use Rattle.lb_desk_model.specs.declared.backend.BackendServer.{BackendServer}
use Rattle.lb_types.specs.declared.table_settings.TableSettings.{TableSettings}
use Rattle.lb_types.specs.declared.balance.Balance.{Balance}
use Rattle.lb_types.specs.declared.balance.Balance.TheVariants.{RoundRobin}

pub record BackendParts : Type 0 where
  pub balance : Balance
  -- all backups are usable together, where only backups are left
  pub all_backups : Bool
  pub table : Option TableSettings
  pub servers : List BackendServer

abbrev pub backend_of_parts : Balance → Bool → Option TableSettings → List BackendServer → BackendParts
backend_of_parts balance all_backups table servers =
    record { balance = balance; all_backups = all_backups; table = table; servers = servers }

-- at most 128 servers, with distinct lawful names
pub record IsBackend (backend : BackendParts) : Type 0 where
  pub few : length backend.servers ≤ MAX_SERVERS
  pub named : All (λ s. is_name s.name ≡ true) backend.servers
  pub distinct : AllPairs (λ a b. a.name ≢ b.name) backend.servers

-- a backend with no server
abbrev pub no_backend : BackendParts
no_backend = backend_of_parts RoundRobin false None []

-- one of a program's backends, as it opened
pub record OpenedBackend : Type 0 where
  -- which one it is: the number of its desk
  pub number : ℕ
  pub parts : BackendParts
  -- how many entries its journal keeps at most
  pub journal_size : ℕ

abbrev pub opened_backend : ℕ → BackendParts → ℕ → OpenedBackend
opened_backend number parts journal_size = record { number = number; parts = parts; journal_size = journal_size }
