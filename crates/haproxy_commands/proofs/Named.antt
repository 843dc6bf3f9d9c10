-- Names, keys and numbers are words that a command can have.
use Rattle.std.proofs.Common.{◌≡◌, ℕ, ◌<◌, ◌≤◌, ◌^◌, Bool, true, false, not, ◌&&◌, eqb, None, List, [], ◌∷◌, length, refl, arith}
use Rattle.std.specs.Fmt.{decimal}
use Rattle.std.specs.List.{All, list_all, position, position_or_len}
use Rattle.std.proofs.lemmas.Bool.Decides.{nat_tests}
use Rattle.std.proofs.lemmas.Fmt.{decimal_nonempty}
use Rattle.std.proofs.lemmas.List.Elements.{All-weaker}
use Rattle.std.proofs.lemmas.List.Sums.{AllPass-from_list_all, fails_before_first}
use Rattle.lb_types_text.proofs.Numerals.{decimal_free}
use Rattle.haproxy_commands.specs.declared.moves.Move.{Move}
use Rattle.haproxy_commands.specs.Names.{is_name_byte, is_table_name, can_stand, can_be_named, is_unnamed}
use Rattle.haproxy_commands.specs.Reading.{has_any}
use Rattle.haproxy_commands.proofs.Words.{IsWord}

any_from : (xs : List ℕ) → 0 < length xs → has_any xs ≡ true
any_from [] some = absurd (omega arith)
any_from (x ∷ xs) some = refl

positive : (n : ℕ) → eqb n 0 ≡ false → 0 < n
positive n other = grind (arith, nat_tests)

pub both : (a b : Bool) → (not a && b) ≡ true → (a ≡ false) × (b ≡ true)
both true b holds = absurd (let e : false ≡ true = holds in cc)
both false true holds = (refl, refl)
both false false holds = absurd (let e : false ≡ true = holds in cc)

was_true : (b : Bool) → not b ≡ false → b ≡ true
was_true true holds = refl
was_true false holds = absurd (let e : true ≡ false = holds in cc)

name_stands : (byte : ℕ) → is_name_byte byte ≡ true → can_stand byte ≡ true
name_stands byte holds = grind (arith, nat_tests)

pub table_word : (table : List ℕ) → is_table_name table ≡ true → IsWord table
table_word table holds =
    let parts = both (eqb (length table) 0) (list_all is_name_byte table) holds in
    record {
      some = any_from table (positive (length table) parts.0);
      stands = All-weaker (λ byte. is_name_byte byte ≡ true) (λ byte. can_stand byte ≡ true) name_stands table (AllPass-from_list_all is_name_byte table parts.1);
    }

pub key_word : (key : List ℕ) → not (can_be_named key) ≡ false → IsWord key
key_word key holds =
    let parts = both (eqb (length key) 0) (list_all can_stand key) (was_true (can_be_named key) holds) in
    record { some = any_from key (positive (length key) parts.0); stands = AllPass-from_list_all can_stand key parts.1 }

digit_stands : (byte : ℕ) → eqb byte 0 ≡ false → eqb byte 10 ≡ false → eqb byte 13 ≡ false → can_stand byte ≡ true
digit_stands byte zero ten thirteen = grind (arith, nat_tests)

pub number_word : (n : ℕ) → n < 2 ^ 32 → IsWord (decimal n)
number_word n small =
    let zero = decimal_free 0 n (omega arith) (λ within. omega (arith, within.0)) in
    let ten = decimal_free 10 n (omega arith) (λ within. omega (arith, within.0)) in
    let thirteen = decimal_free 13 n (omega arith) (λ within. omega (arith, within.0)) in
    record {
      some = any_from (decimal n) (decimal_nonempty n (omega arith));
      stands = λ i d within. digit_stands _ (zero i d within) (ten i d within) (thirteen i d within);
    }

-- each key can be named where none is the first one that can't
pub all_named : (moves : List Move) → position is_unnamed moves ≡ None → All (λ entry. is_unnamed entry ≡ false) moves
all_named moves none =
    let p : Move → Bool = is_unnamed in
    let past : length moves ≤ position_or_len p moves = grind (arith, nat_tests) in
    λ k d within. fails_before_first p moves k d (omega arith)
