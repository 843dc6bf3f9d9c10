-- What a check under `option httpchk` sends: HAProxy Configuration Manual 2.8, `option httpchk`. Our own: under HTTP/1.1 the one
-- field is `Host` with the server's address and port, and `Connection` is not sent.
use Rattle.std.specs.Prelude.{ℕ, List, [], ◌∷◌, ◌++◌, codes}
use Rattle.std.specs.Fmt.{decimal}
use Rattle.std.specs.Net.Addr.{ipv4_octets}
use Rattle.std.specs.Net.Text.{ipv4_text}
use Rattle.std.specs.declared.net.ipv4_addr.Ipv4Addr.{Ipv4Addr}
use Rattle.lb_acl.specs.declared.head.Version.{Version}
use Rattle.lb_acl.specs.declared.head.Version.TheVariants.{Http10, Http11}

-- CR LF
abbrev pub line_end : List ℕ
line_end = 13 ∷ 10 ∷ []

-- a version as it is spelled
abbrev pub version_text : Version → List ℕ
version_text Http10 = codes "HTTP/1.0"
version_text Http11 = codes "HTTP/1.1"

-- the request line of checks, and the version that it says
pub record CheckLine : Type 0 where
  pub text : List ℕ
  pub version : Version

-- the line of this method, URI and version
abbrev pub check_line : List ℕ → List ℕ → Version → CheckLine
check_line method uri version = record {
  text = method ++ codes " " ++ uri ++ codes " " ++ version_text version ++ line_end;
  version = version;
}

-- the fields that a check sends in this version
abbrev pub check_fields : Version → Ipv4Addr → ℕ → List ℕ
check_fields Http10 address port = []
check_fields Http11 address port = codes "Host: " ++ ipv4_text (ipv4_octets address) ++ codes ":" ++ decimal port ++ line_end

-- the request of a check under this line at this address and port
abbrev pub check_request : CheckLine → Ipv4Addr → ℕ → List ℕ
check_request line address port = line.text ++ check_fields line.version address port ++ line_end
