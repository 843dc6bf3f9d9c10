-- Networks of IPv4 addresses: RFC 4632, section 3.1; HAProxy Configuration Manual 2.8, section 7.1.6.
use Rattle.std.specs.Prelude.{ℕ, ◌-◌, ◌/◌, ◌^◌, Bool, ◌==◌}
use Rattle.std.specs.Net.Addr.{ipv4_bits}
use Rattle.std.specs.declared.net.ipv4_addr.Ipv4Addr.{Ipv4Addr}
use Rattle.lb_acl.specs.NetworkView.{NetworkView}

-- the first bits of an address, as a number
abbrev pub first_bits : ℕ → Ipv4Addr → ℕ
first_bits prefix_len address = ipv4_bits address / 2 ^ (32 - prefix_len)

-- the address has the network's first bits
abbrev pub is_in : NetworkView → Ipv4Addr → Bool
is_in network address = first_bits network.prefix_len address == first_bits network.prefix_len network.address
