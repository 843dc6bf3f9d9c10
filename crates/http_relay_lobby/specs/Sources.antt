-- Where clients come from. Our own: clients are known by IPv4 addresses alone.
use Rattle.std.specs.Prelude.{Option, Some, None}
use Rattle.std.specs.Net.Socket.{socket_ip}
use Rattle.std.specs.declared.net.ip_addr.IpAddr.{IpAddr}
use Rattle.std.specs.declared.net.ip_addr.IpAddr.TheVariants as ip
use Rattle.std.specs.declared.net.ipv4_addr.Ipv4Addr.{Ipv4Addr}
use Rattle.std.specs.declared.net.socket_addr.SocketAddr.{SocketAddr}

abbrev pub ipv4_of : IpAddr → Option Ipv4Addr
ipv4_of (ip.V4 address) = Some address
ipv4_of (ip.V6 address) = None

-- the IPv4 address of a client, if it has one
abbrev pub source_of : SocketAddr → Option Ipv4Addr
source_of address = ipv4_of (socket_ip address)
