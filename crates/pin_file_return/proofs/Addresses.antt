-- The text of an address is read as that address.
use Rattle.std.proofs.Common.{◌≡◌, ℕ, ◌^◌, ◌<◌, List, [], ◌∷◌, Some, decimal, refl, ap, ◌∙◌, append_assoc, le-leb, arith}
use Rattle.std.specs.List.{join_with_byte}
use Rattle.std.specs.Net.Addr.{ipv4_octets}
use Rattle.std.specs.Net.Grammar.{IsIpv4Text}
use Rattle.std.specs.Net.Text.{dotted_text}
use Rattle.std.specs.declared.net.ipv4_addr.Ipv4Addr.{Ipv4Addr}
use Rattle.std.proofs.lemmas.List.Elements.{All-nil, All-cons}
use Rattle.lb_types_text.specs.Parts.{parts}
use Rattle.lb_types_text.proofs.Joins.{HasNo, parts_join}
use Rattle.lb_types_text.proofs.Numerals.{numeral_again, decimal_free}
use Rattle.lb_config_arguments.specs.Addresses.{octet_of, ipv4_of}

octet_again : (a : ℕ) → a < 256 → octet_of (decimal a) ≡ Some a
unfolding octet_of
octet_again a fits = let small : a < 2 ^ 64 = omega arith in rw (numeral_again a small, le-leb a 255 (omega arith)) refl

no_dot : (a : ℕ) → a < 256 → HasNo 46 (decimal a)
no_dot a fits = decimal_free 46 a (omega arith) (λ within. omega (arith, within))

dotted_join : (a b c d : ℕ) → dotted_text a b c d ≡ join_with_byte 46 (decimal a ∷ decimal b ∷ decimal c ∷ decimal d ∷ [])
dotted_join a b c d = simp append_assoc

dotted_parts : (a b c d : ℕ) → a < 256 → b < 256 → c < 256 → d < 256
    → parts 46 (dotted_text a b c d) ≡ decimal a ∷ decimal b ∷ decimal c ∷ decimal d ∷ []
dotted_parts a b c d fa fb fc fd =
    ap (parts 46) (dotted_join a b c d)
    ∙ parts_join 46 (decimal a) (decimal b ∷ decimal c ∷ decimal d ∷ [])
    (All-cons (HasNo 46) (decimal a) (decimal b ∷ decimal c ∷ decimal d ∷ []) (no_dot a fa)
    (All-cons (HasNo 46) (decimal b) (decimal c ∷ decimal d ∷ []) (no_dot b fb)
    (All-cons (HasNo 46) (decimal c) (decimal d ∷ []) (no_dot c fc) (All-cons (HasNo 46) (decimal d) [] (no_dot d fd) (All-nil (HasNo 46))))))

pub address_again : (word : List ℕ) (address : Ipv4Addr) → IsIpv4Text word address → ipv4_of word ≡ Some (record { octets = ipv4_octets address })
unfolding ipv4_of
address_again word address is =
    let (fa, fb, fc, fd) = is.fit in
    rw (is.spelled, dotted_parts is.a is.b is.c is.d fa fb fc fd, octet_again is.a fa, octet_again is.b fb, octet_again is.c fc, octet_again is.d fd, is.value) refl
