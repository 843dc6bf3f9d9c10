-- Groups as a sheet lists them. No public clause cites this module.
use Rattle.std.specs.Prelude.{◌≡◌, ◌≤◌, true, List, All, AllPairs}
use Rattle.lb_types_pins.specs.declared.kind.Group.{Group}
use Rattle.lb_types_pins.specs.Kinds.{kind_before}

-- the group stands before the other
abbrev pub Before : Group → Group → Type 0
Before a b = kind_before a.kind b.kind ≡ true

-- groups of different kinds in strictly rising order, none of them empty
pub record AreRising (groups : List Group) : Type 0 where
  pub rising : AllPairs Before groups
  pub counted : All (λ g. 1 ≤ g.count) groups
