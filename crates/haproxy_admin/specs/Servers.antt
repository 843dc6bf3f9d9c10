-- Answers to `show servers state`: HAProxy Management Guide, section 9.3. The first line is `1`, the second one names the columns.
use Rattle.std.specs.Prelude.{ℕ, ◌==◌, ◌&&◌, nat_eq, not, List, [], ◌∷◌, length, drop, Option, Some, None, Result, Err, codes, bytes_eq, if◌then◌else◌}
use Rattle.std.specs.List.{starts_with}
use Rattle.std.specs.Option.{option_map, option_map_or}
use Rattle.lb_types_text.specs.Parts.{parts}
use Rattle.haproxy_admin.specs.declared.row.Server.{Server}
use Rattle.haproxy_admin.specs.Columns.{has_enough, names_servers, names_states, word_at}
use Rattle.haproxy_admin.specs.Lines.{said_from}
use Rattle.haproxy_admin.specs.Rows.{server_of}

-- `# ` and names, of which those that are needed are there
unfoldable pub columns_in : List ℕ → Option (List (List ℕ))
columns_in heading =
    if starts_with nat_eq heading (codes "# ") && (names_servers (parts 32 (drop 2 heading)) && names_states (parts 32 (drop 2 heading)))
    then Some (parts 32 (drop 2 heading)) else None

-- a line is a row, of which the backend's are servers, or passed over if it is empty
unfoldable pub row_said : List ℕ → List (List ℕ) → List ℕ → Option (Option Server)
row_said backend columns line =
    if length line == 0 then Some None
    else (if not (has_enough columns (parts 32 line)) then None
    else (if bytes_eq (word_at (codes "be_name") columns (parts 32 line)) backend then option_map (λ server. Some server) (server_of columns (parts 32 line))
    else Some None))

-- the servers after the first line
unfoldable pub servers_below : List ℕ → List (List ℕ) → Result (List Server) ℕ
servers_below backend [] = Err 2
servers_below backend (heading ∷ rows) = option_map_or (λ columns. said_from (row_said backend columns) 3 rows) (columns_in heading) (Err 2)

-- the servers of the lines
abbrev pub servers_in : List ℕ → List (List ℕ) → Result (List Server) ℕ
servers_in backend [] = Err 1
servers_in backend (first ∷ lines) = if bytes_eq first (codes "1") then servers_below backend lines else Err 1

-- the servers of the backend, or the first line that isn't of the form
unfoldable pub servers_of : List ℕ → List ℕ → Result (List Server) ℕ
servers_of backend text = servers_in backend (parts 10 text)
