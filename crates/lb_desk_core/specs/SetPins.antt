-- What a core tells of a pin that is set. No public clause cites this module.
use Rattle.std.specs.Prelude.{ℕ, ◌<◌, IsSome, length, All}
use Rattle.lb_types.specs.Servers.{members}
use Rattle.lb_desk_model.specs.declared.event.SetPin.{SetPin}
use Rattle.lb_desk_model.specs.Seen.{Seen}

-- the pin's server exists, and so does every server that its name wants
abbrev pub ServersExist : Seen → SetPin → Type 0
ServersExist shown set = (set.server < length shown.names) × All (λ server. server < length shown.names) (members set.name.want)

-- they exist, and there is a table
pub record HasPlace (shown : Seen) (set : SetPin) : Type 0 where
  pub exist : ServersExist shown set
  pub table : IsSome shown.table
