-- What each server holds, in the configuration's order: pins, whose limit (`maxpins`) is our own, and open
-- connections, whose limit is HAProxy Configuration Manual 2.8, section 5.2, `maxconn`; a `maxconn` of 0 is none.
use Rattle.std.specs.Prelude.{ℕ, ◌+◌, ◌^◌, Bool, not, ◌&&◌, ◌||◌, ◌==◌, length, nat_lt, nat_le, List, Option, Some, None, replicate, slice_set, slice_index, if◌then◌else◌}
use Rattle.server_state.specs.Farm.{FarmView, serving, capacity_of, max_connections_of}
use Rattle.capacity_book.specs.declared.fault.OpenFault.{OpenFault}
use Rattle.capacity_book.specs.declared.fault.OpenFault.TheVariants.{NotServing, Full}
use Rattle.capacity_book.specs.declared.fault.CloseFault.{CloseFault}
use Rattle.capacity_book.specs.declared.fault.CloseFault.TheVariants.{NotOpen}

-- a book as it is seen
pub record BookView : Type 0 where
  -- how many pins each server holds
  pub pins : List ℕ
  -- how many connections are open at each server
  pub connections : List ℕ

-- so many servers, with nothing at them
abbrev pub empty_book : ℕ → BookView
empty_book servers = record { pins = replicate servers 0; connections = replicate servers 0 }

-- how many pins a server holds; 0 for one that isn't in the book
abbrev pub pins_at : BookView → ℕ → ℕ
pins_at book server = slice_index book.pins server

-- how many connections are open at a server; 0 for one that isn't in the book
abbrev pub connections_at : BookView → ℕ → ℕ
connections_at book server = slice_index book.connections server

-- the server is in the book, and holds fewer pins than its capacity
abbrev pub has_room : BookView → FarmView → ℕ → Bool
has_room book farm server = nat_lt server (length book.pins) && nat_lt (pins_at book server) (capacity_of farm server)

-- the book with another number of pins at one server
abbrev pub with_pins : BookView → ℕ → ℕ → BookView
with_pins book server pins = record book { pins = slice_set book.pins server pins }

-- the book with these numbers of pins
abbrev pub with_all_pins : BookView → List ℕ → BookView
with_all_pins book pins = record book { pins = pins }

-- the book with another number of open connections at one server
abbrev pub with_connections : BookView → ℕ → ℕ → BookView
with_connections book server count = record book { connections = slice_set book.connections server count }

-- the server is in the book, and it serves
abbrev pub may_open : BookView → FarmView → ℕ → Bool
may_open book farm server = nat_lt server (length book.connections) && serving farm server

-- there is a `maxconn`, and at least so many connections are open
abbrev pub has_reached : ℕ → ℕ → Bool
has_reached maxconn count = not (maxconn == 0) && nat_le maxconn count

-- 64 bits don't count one connection more
abbrev pub counts_no_more : ℕ → Bool
counts_no_more count = nat_le (2 ^ 64) (count + 1)

-- no connection more may be open: `maxconn` is reached, or 64 bits count no more
abbrev pub is_full : ℕ → ℕ → Bool
is_full maxconn count = has_reached maxconn count || counts_no_more count

-- why no connection is opened at the server, if none is: it isn't in the book, or doesn't serve; else it is full
abbrev pub open_fault : BookView → FarmView → ℕ → Option OpenFault
open_fault book farm server =
    if not (may_open book farm server) then Some NotServing
    else (if is_full (max_connections_of farm server) (connections_at book server) then Some Full else None)

-- why no connection is opened at the server, if none is, by the manual's words alone
abbrev pub fault_by_maxconn : FarmView → ℕ → ℕ → Option OpenFault
fault_by_maxconn farm server count =
    if not (serving farm server) then Some NotServing else (if has_reached (max_connections_of farm server) count then Some Full else None)

-- why no connection ends at the server, if none does
abbrev pub close_fault : BookView → ℕ → Option CloseFault
close_fault book server = if connections_at book server == 0 then Some NotOpen else None
