-- Backends and servers by their names: HAProxy Management Guide 2.8, section 9.3 (`set server <backend>/<server>`). The numbers are
-- this project's own.
use Rattle.std.specs.Prelude.{ℕ, List, position, slice_get, Option, Some, None, Result, Ok, Err}
use Rattle.std.specs.Option.{option_and_then}
use Rattle.std.specs.Str.{bytes_eq}
use Rattle.lb_config_rules.specs.Rules.{within_limit}
use Rattle.lb_config_values.specs.ServerView.{ServerView}
use Rattle.lb_config.specs.ConfigViews.{BackendView}
use Rattle.lb_config.specs.declared.find.FindFault.{FindFault}
use Rattle.lb_config.specs.declared.find.FindFault.TheVariants.{NoBackend, NoSuchServer}

abbrev pub number_of : FindFault → ℕ
number_of NoBackend = 103
number_of NoSuchServer = 10

abbrev pub found_backend : Option ℕ → Result ℕ FindFault
found_backend (Some place) = Ok place
found_backend None = Err NoBackend

-- the place of the backend of this name
abbrev pub find_backend : List BackendView → List ℕ → Result ℕ FindFault
find_backend backends name = found_backend (position (λ backend. bytes_eq backend.name name) backends)

-- the server of this name
abbrev pub server_place : List ServerView → List ℕ → Option ℕ
server_place servers name = within_limit (position (λ server. bytes_eq server.name name) servers)

-- the server of this name in the backend at a place
abbrev pub server_at : List BackendView → ℕ → List ℕ → Option ℕ
server_at backends place name = option_and_then (λ backend. server_place backend.servers name) (slice_get backends place)

-- a place with its server
abbrev pub with_server : ℕ → Option ℕ → Result (ℕ × ℕ) FindFault
with_server place (Some server) = Ok (place, server)
with_server place None = Err NoSuchServer

-- the server of a backend that was looked up
abbrev pub server_behind : List BackendView → List ℕ → Result ℕ FindFault → Result (ℕ × ℕ) FindFault
server_behind backends name (Ok place) = with_server place (server_at backends place name)
server_behind backends name (Err fault) = Err fault

-- the backend of the one name, and in it the server of the other
abbrev pub find_server : List BackendView → List ℕ → List ℕ → Result (ℕ × ℕ) FindFault
find_server backends backend server = server_behind backends server (find_backend backends backend)
