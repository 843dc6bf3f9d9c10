-- The head that the server gets: RFC 9112, sections 3 and 5, and the HAProxy Configuration Manual 2.8, `option forwardfor`.
-- Our own: the version stays, no `Via` is added, and each line has one spelling.
use Rattle.std.specs.Prelude.{ℕ, Bool, true, false, List, [], ◌∷◌, ◌++◌, codes, if◌then◌else◌}
use Rattle.std.specs.List.{filter, flat_map}
use Rattle.std.specs.Net.Addr.{ipv4_octets}
use Rattle.std.specs.Net.Text.{ipv4_text}
use Rattle.std.specs.declared.net.ipv4_addr.Ipv4Addr.{Ipv4Addr}
use Rattle.lb_acl.specs.declared.head.Version.{Version}
use Rattle.lb_acl.specs.declared.head.Version.TheVariants.{Http10, Http11}
use Rattle.lb_acl.specs.Bytes.{trimmed}
use Rattle.lb_acl.specs.FieldView.{FieldView}
use Rattle.lb_acl.specs.HeadView.{HeadView}
use Rattle.http_relay_forward.specs.Options.{is_kept}

-- CR LF
abbrev pub line_end : List ℕ
line_end = 13 ∷ 10 ∷ []

-- a version as it is spelled
abbrev pub version_text : Version → List ℕ
version_text Http10 = codes "HTTP/1.0"
version_text Http11 = codes "HTTP/1.1"

-- method, target and version as they came, with one space between
abbrev pub request_line : HeadView → List ℕ
request_line head = head.method ++ codes " " ++ head.target ++ codes " " ++ version_text head.version ++ line_end

-- a field: its name, a colon, a space, and the value without blanks round it
abbrev pub field_line : FieldView → List ℕ
field_line field = field.name ++ codes ": " ++ trimmed field.value ++ line_end

-- the fields that the server gets, in their order
abbrev pub kept_lines : List FieldView → List ℕ
kept_lines fields = flat_map field_line (filter (is_kept fields) fields)

-- the client's address, where the configuration asks for it
abbrev pub address_line : Bool → Ipv4Addr → List ℕ
address_line false source = []
address_line true source = codes "X-Forwarded-For: " ++ ipv4_text (ipv4_octets source) ++ line_end

-- the connection to the server carries one request
abbrev pub close_line : List ℕ
close_line = codes "Connection: close" ++ line_end

-- the head that the server gets
abbrev pub forwarded : HeadView → Bool → List ℕ
forwarded head forwardfor =
    request_line head ++ kept_lines head.fields ++ close_line ++ address_line forwardfor head.source ++ line_end
