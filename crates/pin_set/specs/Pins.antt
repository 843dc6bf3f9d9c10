-- Where a pin may be. A pin's name is a key and the set `want` of the servers that the matching `use-server` rules name.
-- HAProxy Configuration Manual 2.8, `use-server` and `stick-table`; what holds where no wanted server is usable is a
-- choice of this project.
use Rattle.std.specs.Prelude.{ℕ, Bool, false, ◌&&◌, ◌||◌, ◌==◌, Option, Some, None, if◌then◌else◌}
use Rattle.lb_types.specs.Servers.{has, meet}

-- the usable servers that the pin wants, or all usable ones where it wants none of them
abbrev pub permitted : ℕ → ℕ → ℕ
permitted want usable = if meet want usable == 0 then usable else meet want usable

-- The place keeps its pin: it is a server that serves, and the pin wants it, wants no server, or wants no usable one.
-- `serving` says that the place is a server that serves
abbrev pub honoured : Option ℕ → ℕ → ℕ → Bool → Bool
honoured None want usable serving = false
honoured (Some server) want usable serving = serving && (want == 0 || has want server || meet want usable == 0)
