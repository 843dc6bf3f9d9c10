-- Single values that lines of `global` have said, as contracts see them. None is what isn't said.
use Rattle.std.specs.Prelude.{ℕ, Option}
use Rattle.lb_config_keywords.specs.declared.stats_socket.SocketAddress.{SocketAddress}

pub record GlobalsView : Type 0 where
  pub relays : Option ℕ
  pub tries : Option ℕ
  pub journal : Option ℕ
  pub socket : Option SocketAddress
