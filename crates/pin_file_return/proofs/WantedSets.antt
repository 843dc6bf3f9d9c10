-- The set of the servers that names are, name by name.
use Rattle.std.proofs.Common.{ℕ, List, Option}
use Rattle.std.specs.Option.{option_map}
use Rattle.std.specs.Prelude.{fold}
use Rattle.lb_types.specs.Servers.{with_server}

-- these servers, and those of the places
abbrev pub set_behind : ℕ → Option (List ℕ) → Option ℕ
set_behind set places = option_map (λ rest. fold with_server set rest) places
