-- When a desk takes no event more: its entries and open connections have come to 2^63. So versions and the numbers of
-- entries fit into 64 bits, and each open connection has room for the event that ends it.
use Rattle.std.specs.Prelude.{ℕ, ◌+◌, ◌^◌, Bool, true, false, not, ◌&&◌, nat_lt, nat_le, List, sum, count_by, slice_get}
use Rattle.std.specs.Option.{unwrap_or}
use Rattle.lb_desk_model.specs.declared.entry.Entry.{Entry}
use Rattle.lb_desk_model.specs.declared.event.Event.{Event}
use Rattle.lb_desk_model.specs.declared.event.Event.TheVariants.{Close}
use Rattle.lb_desk_model.specs.declared.reply.Reply.{Reply}
use Rattle.lb_desk_model.specs.declared.reply.Reply.TheVariants.{Served, Pinned}
use Rattle.lb_desk_model.specs.declared.reply.ServedAs.{ServedAs}
use Rattle.lb_desk_model.specs.declared.reply.ServedAs.TheVariants.{Loose}
use Rattle.lb_desk_model.specs.Seen.{Seen}

-- how many connections are open, at all servers together
abbrev pub open_connections : Seen → ℕ
open_connections shown = sum shown.connections

-- how many are open at one server; none where there is no such server
abbrev pub open_at : Seen → ℕ → ℕ
open_at shown server = unwrap_or (slice_get shown.connections server) 0

-- the event ends a connection of a server where one is open
abbrev pub ends_one : Seen → Event → Bool
ends_one shown (Close server) = nat_lt 0 (open_at shown server)
ends_one shown event = false

-- So many entries and the open connections come to 2^63, and the event doesn't end one of these. Two events in one go are
-- worn where the second would be
abbrev pub is_worn : Seen → ℕ → Event → Bool
is_worn shown entries event = nat_le (2 ^ 63) (entries + open_connections shown) && not (ends_one shown event)

-- the request was served through a pin
abbrev pub uses_pin : ServedAs → Bool
uses_pin Loose = false
uses_pin how = true

-- a pin was used: by a request, or as it was set
abbrev pub is_use : Reply → Bool
is_use (Served server how) = uses_pin how
is_use (Pinned how) = true
is_use reply = false

-- how often a pin was used: so many numbers of use a table has given
abbrev pub uses : List Entry → ℕ
uses entries = count_by (λ e. is_use e.reply) entries
