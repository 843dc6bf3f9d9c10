-- A request as rules see it: RFC 9112, sections 3 and 5, and the address of the client.
use Rattle.std.specs.Prelude.{ℕ, List}
use Rattle.std.specs.declared.net.ipv4_addr.Ipv4Addr.{Ipv4Addr}
use Rattle.lb_acl.specs.declared.head.Version.{Version}
use Rattle.lb_acl.specs.FieldView.{FieldView}

-- the parts of a head as they came, and the client's address
pub record HeadView : Type 0 where
  pub method : List ℕ
  pub target : List ℕ
  pub version : Version
  pub fields : List FieldView
  pub source : Ipv4Addr
