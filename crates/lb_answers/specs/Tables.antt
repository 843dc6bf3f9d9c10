-- The pins of a stick table, as `show table` has them.
use Rattle.std.specs.Prelude.{ℕ, ◌==◌, Option, Some, None, List, [], ◌∷◌, ◌++◌, map, flat_map, length, codes, if◌then◌else◌}
use Rattle.std.specs.List.{join_with_byte}
use Rattle.lb_types.specs.Servers.{has, members}
use Rattle.lb_acl.specs.declared.key.TableType.{TableType}
use Rattle.lb_acl.specs.declared.key.TableType.TheVariants.{Ip, Text}
use Rattle.lb_desk_model.specs.declared.backend.BackendServer.{BackendServer}
use Rattle.pin_set.specs.declared.table_pin.TablePin.{TablePin}
use Rattle.lb_answers.specs.declared.named_backend.NamedTable.{NamedTable}
use Rattle.lb_answers.specs.Events.{cost_text}
use Rattle.lb_answers.specs.Keys.{key_word}
use Rattle.lb_answers.specs.Names.{labelled, server_word}

-- the place of a pin, with `-` for none
abbrev pub place_word : List BackendServer → Option ℕ → List ℕ
place_word servers None = codes "-"
place_word servers (Some server) = server_word servers server

-- the servers of a set, in the configuration's order and joined by commas (byte 44), with `-` for none
unfoldable pub want_word : List BackendServer → ℕ → List ℕ
want_word servers want = if want == 0 then codes "-" else join_with_byte 44 (map (λ server. server_word servers server) (members want))

-- the server's word behind a comma, if the set holds the server
abbrev pub member_text : List BackendServer → ℕ → ℕ → List ℕ
member_text servers set server = if has set server then 44 ∷ server_word servers server else []

-- the line of a pin. `use` is the moment of its last use, in milliseconds
unfoldable pub pin_line : List BackendServer → TablePin → List ℕ
pin_line servers p =
    codes "key=" ++ key_word p.pin.id.key ++ codes " want=" ++ want_word servers p.pin.id.want ++ codes " server="
    ++ place_word servers p.pin.place ++ labelled (codes " use=") p.last_use ++ cost_text p.pin.cost ++ codes "\n"

abbrev pub type_word : TableType → List ℕ
type_word Ip = codes "ip"
type_word (Text len) = codes "string"

-- the first line: how many pins the table may have, and how many it has
unfoldable pub table_heading : List ℕ → NamedTable → ℕ → List ℕ
table_heading backend table used =
    codes "# table " ++ backend ++ codes " type " ++ type_word table.key_type ++ labelled (codes " size ") table.size
    ++ labelled (codes " used ") used ++ codes "\n"

-- some pins of a table that has so many, in their order, or that there is no table
abbrev pub rows_text : List ℕ → List BackendServer → Option NamedTable → ℕ → List TablePin → List ℕ
rows_text backend servers None used pins = codes "no table\n"
rows_text backend servers (Some table) used pins = table_heading backend table used ++ flat_map (λ p. pin_line servers p) pins

-- all pins of the table
abbrev pub table_text : List ℕ → List BackendServer → Option NamedTable → List TablePin → List ℕ
table_text backend servers table pins = rows_text backend servers table (length pins) pins
