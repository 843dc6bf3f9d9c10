-- The backend that a script is for: the only one with servers. Our own rule.
use Rattle.std.specs.Prelude.{ℕ, Bool, ◌==◌, not, List, length, count_by, position, Option, None, if◌then◌else◌}
use Rattle.lb_config.specs.ConfigViews.{BackendView}

abbrev pub has_servers : BackendView → Bool
has_servers backend = not (length backend.servers == 0)

-- the place of the backend with servers, where there is exactly one
abbrev pub only_place : List BackendView → Option ℕ
only_place backends = if count_by has_servers backends == 1 then position has_servers backends else None
