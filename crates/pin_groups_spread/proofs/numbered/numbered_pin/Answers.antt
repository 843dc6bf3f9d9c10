use Rattle.std.proofs.Common.{w32, ap, ◌∙◌}
use Rattle.std.specs.Net.Addr.{ipv4_bits, IsIpv4OfBits}
use Rattle.std.specs.Int.{from_be_bytes}
use Rattle.std.proofs.lemmas.Nat.{from_be_bytes-to_be_bytes_4}
use Rattle.pin_groups_spread.proofs.numbered.numbered_pin.Goals as goal

pub returns-clause-number : goal.returns-clause-number
unfolding ipv4_bits IsIpv4OfBits
returns-clause-number c = ap (from_be_bytes w32) c.from_bits.ensures ∙ from_be_bytes-to_be_bytes_4 c.args.number c.ranges.number.fits
