-- The order of kinds of pins and of rows. No server comes before every server, servers come in the configuration's order,
-- and sets of servers as the numbers whose bit i stands for server i.
use Rattle.std.specs.Prelude.{ℕ, suc, Bool, ◌&&◌, ◌||◌, ◌==◌, nat_lt, nat_eq, Option, Some, None, if◌then◌else◌}
use Rattle.std.specs.Option.{option_eq}
use Rattle.lb_types_pins.specs.declared.kind.PinKind.{PinKind}
use Rattle.lb_types_pins.specs.declared.kind.Row.{Row}

-- the places are one server, or both are none
abbrev pub same_place : Option ℕ → Option ℕ → Bool
same_place p q = option_eq nat_eq p q

-- the kinds have one place, one permitted set and one cost
abbrev pub same_kind : PinKind → PinKind → Bool
same_kind a b = same_place a.place b.place && (a.permitted == b.permitted && a.cost == b.cost)

-- a place as a number: none is 0, and the server i is i + 1
abbrev pub place_rank : Option ℕ → ℕ
place_rank None = 0
place_rank (Some server) = suc server

-- the place comes before the other
abbrev pub place_before : Option ℕ → Option ℕ → Bool
place_before p q = nat_lt (place_rank p) (place_rank q)

-- by place, then by permitted set, then by cost
abbrev pub kind_before : PinKind → PinKind → Bool
kind_before a b =
    place_before a.place b.place
    || (same_place a.place b.place && (nat_lt a.permitted b.permitted || (a.permitted == b.permitted && nat_lt a.cost b.cost)))

-- by kind, then by new place
abbrev pub row_before : Row → Row → Bool
row_before a b = kind_before a.kind b.kind || (same_kind a.kind b.kind && place_before a.new_place b.new_place)
