-- Addresses that are read as four numbers between dots are those that texts write.
use Rattle.std.proofs.Common.{◌≡◌, ℕ, ◌^◌, ◌<◌, ◌≤◌, Bool, true, false, nat_le, cond, List, [], ◌∷◌, Option, Some, None, decimal, refl, sym, ap, ◌∙◌, append_assoc, leb-true, le-leb, arith}
use Rattle.std.specs.List.{join_with_byte}
use Rattle.std.specs.Option.{unwrap_or}
use Rattle.std.specs.Net.Addr.{ipv4_octets}
use Rattle.std.specs.Net.Grammar.{IsIpv4Text}
use Rattle.std.specs.Net.Text.{dotted_text}
use Rattle.std.specs.declared.net.ipv4_addr.Ipv4Addr.{Ipv4Addr}
use Rattle.std.proofs.lemmas.List.Elements.{All-nil, All-cons}
use Rattle.lb_types_text.specs.Numbers.{numeral_of}
use Rattle.lb_types_text.specs.Parts.{parts}
use Rattle.lb_types_text.proofs.Joins.{HasNo, parts_join, join_parts}
use Rattle.lb_types_text.proofs.Numerals.{numeral_again, spelled_as, decimal_free}
use Rattle.lb_config_arguments.specs.Addresses.{byte_of, octet_of, address_of, dotted, ipv4_of}

-- ---- four numbers, written and read

octet_again : (a : ℕ) → a < 256 → octet_of (decimal a) ≡ Some a
unfolding octet_of
octet_again a fits = let small : a < 2 ^ 64 = omega arith in rw (numeral_again a small, le-leb a 255 (omega arith)) refl

no_dot : (a : ℕ) → a < 256 → HasNo 46 (decimal a)
no_dot a fits = decimal_free 46 a (omega arith) (λ within. omega (arith, within))

dotted_join : (a b c d : ℕ) → dotted_text a b c d ≡ join_with_byte 46 (decimal a ∷ decimal b ∷ decimal c ∷ decimal d ∷ [])
dotted_join a b c d = simp append_assoc

dotted_parts : (a b c d : ℕ) → a < 256 → b < 256 → c < 256 → d < 256 → parts 46 (dotted_text a b c d) ≡ decimal a ∷ decimal b ∷ decimal c ∷ decimal d ∷ []
dotted_parts a b c d fa fb fc fd =
    ap (parts 46) (dotted_join a b c d)
    ∙ parts_join 46 (decimal a) (decimal b ∷ decimal c ∷ decimal d ∷ [])
    (All-cons (HasNo 46) (decimal a) (decimal b ∷ decimal c ∷ decimal d ∷ []) (no_dot a fa)
    (All-cons (HasNo 46) (decimal b) (decimal c ∷ decimal d ∷ []) (no_dot b fb)
    (All-cons (HasNo 46) (decimal c) (decimal d ∷ []) (no_dot c fc) (All-cons (HasNo 46) (decimal d) [] (no_dot d fd) (All-nil (HasNo 46))))))

address_again : (word : List ℕ) (address : Ipv4Addr) → IsIpv4Text word address
    → ipv4_of word ≡ Some (record { octets = ipv4_octets address })
unfolding ipv4_of
address_again word address is =
    let (fa, fb, fc, fd) = is.fit in
    rw (is.spelled, dotted_parts is.a is.b is.c is.d fa fb fc fd, octet_again is.a fa, octet_again is.b fb, octet_again is.c fc, octet_again is.d fd, is.value) refl

-- ---- four words, read and written

in_byte : (b : Bool) (n a : ℕ) → nat_le n 255 ≡ b → cond b (Some n) None ≡ Some a → (n ≡ a) × (n ≤ 255)
in_byte true n a test is = (cc, leb-true n 255 test)
in_byte false n a test is = cc

byte_spelled : (word : List ℕ) (read : Option ℕ) (a : ℕ) → numeral_of word ≡ read → byte_of read ≡ Some a → (word ≡ decimal a) × (a < 256)
byte_spelled word None a reads is = cc
byte_spelled word (Some n) a reads is =
    let (same, fits) = in_byte (nat_le n 255) n a refl is in
    (spelled_as word n reads (omega arith) ∙ ap decimal same, omega arith)

octet_spelled : (word : List ℕ) (a : ℕ) → octet_of word ≡ Some a → (word ≡ decimal a) × (a < 256)
unfolding octet_of
octet_spelled word a is = byte_spelled word (numeral_of word) a refl is

-- the four numbers that were read, each from its word
record Octets (address : Ipv4Addr) (a b c d : Option ℕ) : Type 0 where
  one : ℕ
  two : ℕ
  three : ℕ
  last : ℕ
  value : ipv4_octets address ≡ one ∷ two ∷ three ∷ last ∷ []
  is_one : a ≡ Some one
  is_two : b ≡ Some two
  is_three : c ≡ Some three
  is_last : d ≡ Some last

octets_of : (address : Ipv4Addr) (a b c d : Option ℕ) → address_of a b c d ≡ Some address → Octets address a b c d
octets_of address (Some a) (Some b) (Some c) (Some d) is = record {
  one = a;
  two = b;
  three = c;
  last = d;
  value = sym (ap (λ (read : Option Ipv4Addr). ipv4_octets (unwrap_or read address)) is);
  is_one = refl;
  is_two = refl;
  is_three = refl;
  is_last = refl;
}
octets_of address None b c d is = cc
octets_of address (Some a) None c d is = cc
octets_of address (Some a) (Some b) None d is = cc
octets_of address (Some a) (Some b) (Some c) None is = cc

join_written : (a b c d : List ℕ) (one two three last : ℕ) → a ≡ decimal one → b ≡ decimal two → c ≡ decimal three → d ≡ decimal last
    → join_with_byte 46 (a ∷ b ∷ c ∷ d ∷ []) ≡ dotted_text one two three last
join_written a b c d one two three last is_one is_two is_three is_last = rw (is_one, is_two, is_three, is_last) (sym (dotted_join one two three last))

address_of_words : (word : List ℕ) (address : Ipv4Addr) (a b c d : List ℕ) → parts 46 word ≡ a ∷ b ∷ c ∷ d ∷ []
    → address_of (octet_of a) (octet_of b) (octet_of c) (octet_of d) ≡ Some address → IsIpv4Text word address
address_of_words word address a b c d words is =
    let read = octets_of address (octet_of a) (octet_of b) (octet_of c) (octet_of d) is in
    let first = octet_spelled a read.one read.is_one in
    let second = octet_spelled b read.two read.is_two in
    let third = octet_spelled c read.three read.is_three in
    let fourth = octet_spelled d read.last read.is_last in
    let joined : word ≡ join_with_byte 46 (a ∷ b ∷ c ∷ d ∷ []) = sym (join_parts 46 word) ∙ ap (join_with_byte 46) words in
    record {
      a = read.one;
      b = read.two;
      c = read.three;
      d = read.last;
      fit = (first.1, second.1, third.1, fourth.1);
      value = read.value;
      spelled = joined ∙ join_written a b c d read.one read.two read.three read.last first.0 second.0 third.0 fourth.0;
    }

address_spelled : (word : List ℕ) (address : Ipv4Addr) (words : List (List ℕ)) → parts 46 word ≡ words → dotted words ≡ Some address → IsIpv4Text word address
address_spelled word address [] words is = cc
address_spelled word address (a ∷ []) words is = cc
address_spelled word address (a ∷ b ∷ []) words is = cc
address_spelled word address (a ∷ b ∷ c ∷ []) words is = cc
address_spelled word address (a ∷ b ∷ c ∷ d ∷ []) words is = address_of_words word address a b c d words is
address_spelled word address (a ∷ b ∷ c ∷ d ∷ e ∷ more) words is = cc

pub address_written : (word : List ℕ) (address : Ipv4Addr) → ipv4_of word ≡ Some address → IsIpv4Text word address
unfolding ipv4_of
address_written word address is = address_spelled word address (parts 46 word) refl is

pub none_written : (word : List ℕ) (address : Ipv4Addr) → ipv4_of word ≡ None → ¬ IsIpv4Text word address
none_written word address none is = let found = address_again word address is in cc
