use Rattle.std.proofs.Common.{ap, List, ℕ}
use Rattle.std.specs.Net.Addr.{IsIpv4OfBits}
use Rattle.pin_set.specs.declared.pin_key.PinKey.TheVariants.{Ipv4}
use Rattle.haproxy_farm.specs.Farms.{key_of}
use Rattle.haproxy_farm.proofs.pins.key_of.Goals as goal

pub returns : goal.returns
unfolding key_of IsIpv4OfBits
returns c = ap (λ (octets : List ℕ). Ipv4 (record { octets = octets })) c.from_bits.ensures
