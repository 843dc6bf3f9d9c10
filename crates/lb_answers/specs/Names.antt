-- How answers name servers and say numbers. All layouts of answers are our own.
use Rattle.std.specs.Prelude.{ℕ, Option, Some, None, List, [], ◌∷◌, ◌++◌, slice_get, codes}
use Rattle.std.specs.Fmt.{decimal}
use Rattle.std.specs.Option.{option_map_or}
use Rattle.lb_desk_model.specs.declared.backend.BackendServer.{BackendServer}

-- a number behind its label
abbrev pub labelled : List ℕ → ℕ → List ℕ
labelled label number = label ++ decimal number

-- the server's name; where there is no server of this number, `#` and the number
unfoldable pub server_word : List BackendServer → ℕ → List ℕ
server_word servers server = option_map_or (λ s. s.name) (slice_get servers server) (labelled (codes "#") server)

-- the server behind a space, if there is one
abbrev pub server_behind : List BackendServer → Option ℕ → List ℕ
server_behind servers None = []
server_behind servers (Some server) = 32 ∷ server_word servers server
