-- Which clients move, and to which of HAProxy's servers.
use Rattle.std.specs.Prelude.{ℕ, Bool, nat_eq, bytes_eq, is_some, List, [], ◌∷◌, map, find, slice_get, Option, Some, None, if◌then◌else◌}
use Rattle.std.specs.List.{cons_option, list_all}
use Rattle.std.specs.Option.{option_eq, option_map}
use Rattle.haproxy_admin.specs.declared.row.Server.{Server}
use Rattle.haproxy_commands.specs.declared.moves.Move.{Move}
use Rattle.pin_set.specs.declared.view.ViewServer.{ViewServer}
use Rattle.lb_cli_haproxy.specs.declared.clients.Client.{Client}

-- the number of the first server with this name
unfoldable pub number_named : List Server → List ℕ → Option ℕ
number_named servers name = option_map (λ server. server.number) (find (λ server. bytes_eq server.name name) servers)

-- the numbers of the farm's servers
abbrev pub numbers_named : List Server → List ViewServer → List (Option ℕ)
numbers_named servers farm = map (λ server. number_named servers server.name) farm

-- the number of the server at this place
unfoldable pub number_at : List ℕ → Option ℕ → Option ℕ
number_at numbers None = None
number_at numbers (Some place) = slice_get numbers place

-- each place is that of a server with a number
abbrev pub all_have_numbers : List ℕ → List (Option ℕ) → Bool
all_have_numbers numbers places = list_all (λ place. is_some (number_at numbers place)) places

-- a client's move to a place, as its key and the number of the server there: none where it is there already
unfoldable pub move_of : List ℕ → Client → Option ℕ → Option (List ℕ × ℕ)
move_of numbers client place =
    if option_eq nat_eq client.place place then None else option_map (λ number. (client.key, number)) (number_at numbers place)

-- the moves of the clients to these places, in the order of the clients
unfoldable pub moves_of : List ℕ → List Client → List (Option ℕ) → List (List ℕ × ℕ)
moves_of numbers (client ∷ clients) (place ∷ places) = cons_option (move_of numbers client place) (moves_of numbers clients places)
moves_of numbers _ _ = []

-- the moves as keys and numbers
unfoldable pub said_by : List Move → List (List ℕ × ℕ)
said_by moves = map (λ entry. (entry.key.now, entry.server)) moves
