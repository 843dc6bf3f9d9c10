-- A network as contracts see it.
use Rattle.std.specs.Prelude.{ℕ}
use Rattle.std.specs.declared.net.ipv4_addr.Ipv4Addr.{Ipv4Addr}

-- an address, and how many of its first bits count
pub record NetworkView : Type 0 where
  pub address : Ipv4Addr
  pub prefix_len : ℕ
