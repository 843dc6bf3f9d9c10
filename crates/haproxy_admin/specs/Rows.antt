-- A row of an answer to `show servers state`, as a server: HAProxy Management Guide, section 9.3.
use Rattle.std.specs.Prelude.{ℕ, Bool, ◌&&◌, not, List, Option, Some, codes, bytes_eq}
use Rattle.haproxy_admin.specs.declared.row.Server.{Server}
use Rattle.haproxy_admin.specs.Columns.{word_at}
use Rattle.haproxy_admin.specs.Cuts.{◌>>=◌}
use Rattle.haproxy_admin.specs.Fields.{number_of}

-- the server is up (2), in no other administrative state (0), and its weight isn't 0
unfoldable pub takes_clients : List (List ℕ) → List (List ℕ) → Bool
takes_clients columns words =
    bytes_eq (word_at (codes "srv_op_state") columns words) (codes "2") && bytes_eq (word_at (codes "srv_admin_state") columns words) (codes "0")
    && not (bytes_eq (word_at (codes "srv_uweight") columns words) (codes "0"))

-- the server of a row
unfoldable pub server_of : List (List ℕ) → List (List ℕ) → Option Server
server_of columns words =
    number_of (word_at (codes "srv_id") columns words) >>= λ number.
    Some (record { number = number; name = word_at (codes "srv_name") columns words; is_on = takes_clients columns words })
