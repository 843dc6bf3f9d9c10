-- Whom a script is for: the one backend of a configuration that has servers, as it opens.
use Rattle.std.specs.Prelude.{◌≡◌, ℕ, Option, Some, slice_get}
use Rattle.std.specs.Option.{option_map}
use Rattle.lb_config.specs.ConfigViews.{BackendView, ConfigView}
use Rattle.lb_config_parameters.specs.TableViews.{StickTableView}
use Rattle.lb_desk_backend.specs.Configured.{IsBackendOf}
use Rattle.lb_desk_model.specs.Backends.{BackendParts}
use Rattle.lb_answers.specs.declared.named_backend.NamedTable.{NamedTable}

pub record FarmView : Type 0 where
  pub config : ConfigView
  -- the place of the backend among the configuration's
  pub place : ℕ
  -- the backend as it is configured
  pub own : BackendView
  -- and as it opens
  pub backend : BackendParts

-- the farm is that of the configuration's backend at the place
pub record IsFarmAt (config : ConfigView) (place : ℕ) (farm : FarmView) : Type 0 where
  pub whole : farm.config ≡ config
  pub here : farm.place ≡ place
  pub own : slice_get config.backends place ≡ Some farm.own
  pub backend : IsBackendOf farm.own farm.backend

-- a table as answers name it
abbrev pub named_table : StickTableView → NamedTable
named_table table = record { key_type = table.kind; size = table.size }

-- the table of a backend, if it has one
abbrev pub table_of : BackendView → Option NamedTable
table_of backend = option_map named_table backend.rules.table
