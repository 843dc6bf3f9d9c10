-- Keys, written as words and read again.
use Rattle.std.proofs.Common.{◌≡◌, ℕ, ◌+◌, ◌*◌, ◌/◌, ◌%◌, ◌<◌, ◌≤◌, Bool, true, false, eqb, ltb, cond, Option, Some, None, List, [], ◌∷◌, ◌++◌, codes, refl, sym, ap, ◌∙◌, arith}
use Rattle.std.specs.Fmt.{digit_glyph}
use Rattle.std.specs.List.{All, flat_map}
use Rattle.std.specs.Str.{bytes_eq}
use Rattle.std.proofs.lemmas.Bool.Decides.{nat_tests}
use Rattle.std.proofs.lemmas.List.Elements.{All-nil, All-cons, All-head, All-tail, All-append}
use Rattle.lb_types.specs.Names.{is_dash}
use Rattle.lb_types_text.proofs.Joins.{HasNo}
use Rattle.command_socket_keys.specs.Keys.{bytes_in, byte_of, digit_of, with_byte}
use Rattle.pin_file.specs.KeyWords.{is_plain, escaped, text_word}
use Rattle.dual_cert_text.proofs.Steps.{bind_some, if_none, bytes_is, bytes_same}
use Rattle.pin_file.specs.Texts.{key_of}

-- a byte that begins no escape
plain : (byte : ℕ) (rest : List ℕ) → eqb byte 37 ≡ false → bytes_in (byte ∷ rest) ≡ with_byte (Some byte) (bytes_in rest)
unfolding bytes_in
plain byte [] other = rw other refl
plain byte (next ∷ []) other = rw other refl
plain byte (high ∷ low ∷ more) other = rw other refl

-- an escape
escape : (high low : ℕ) (more : List ℕ) → bytes_in (37 ∷ high ∷ low ∷ more) ≡ with_byte (byte_of (digit_of high) (digit_of low)) (bytes_in more)
unfolding bytes_in
escape high low more = refl

plain_is : (b : ℕ) → is_plain b ≡ true → (eqb b 37 ≡ false) × (33 ≤ b) × (b ≤ 126)
plain_is b is = (grind (arith, nat_tests), grind (arith, nat_tests), grind (arith, nat_tests))

glyph_above : (n : ℕ) → 48 ≤ digit_glyph true n
glyph_above n = by_case (ltb n 10)
  where
    by_case : (t : Bool) → 48 ≤ cond t (48 + n) (55 + n)
    by_case true = omega arith
    by_case false = omega arith

digit_again : (n : ℕ) → n < 16 → digit_of (digit_glyph true n) ≡ Some n
digit_again n small = grind (arith, nat_tests)

digit_small : (x n : ℕ) → digit_of x ≡ Some n → n < 16
digit_small x n is = grind (arith, nat_tests)

halves : (b : ℕ) → b < 256 → (b / 16 < 16) × (b % 16 < 16) × ((b / 16) * 16 + b % 16 ≡ b)
halves b small = (omega arith, omega arith, omega arith)

escaped_again : (b : ℕ) (rest : List ℕ) → b < 256 → bytes_in (escaped b ++ rest) ≡ with_byte (Some b) (bytes_in rest)
escaped_again b rest small = by_case (is_plain b) refl
  where
    by_case : (p : Bool) → is_plain b ≡ p → bytes_in (escaped b ++ rest) ≡ with_byte (Some b) (bytes_in rest)
    by_case true is = rw is (plain b rest (plain_is b is).0)
    by_case false is =
        let parts = halves b small in
        rw (is, escape (digit_glyph true (b / 16)) (digit_glyph true (b % 16)) rest, digit_again (b / 16) parts.0, digit_again (b % 16) parts.1, parts.2) refl

none_again : bytes_in [] ≡ Some []
unfolding bytes_in
none_again = refl

all_again : (bytes : List ℕ) → All (λ b. b < 256) bytes → bytes_in (flat_map (λ b. escaped b) bytes) ≡ Some bytes
all_again [] small = none_again
all_again (b ∷ bytes) small =
    escaped_again b (flat_map (λ x. escaped x) bytes) (All-head (λ x. x < 256) b bytes small)
    ∙ ap (with_byte (Some b)) (all_again bytes (All-tail (λ x. x < 256) b bytes small))

dash_again : bytes_in (codes "%2D") ≡ Some (codes "-")
unfolding bytes_in
dash_again = refl

bytes_again : (bytes : List ℕ) → All (λ b. b < 256) bytes → bytes_in (text_word bytes) ≡ Some bytes
unfolding text_word
bytes_again bytes small = by_case (is_dash bytes) refl
  where
    by_case : (d : Bool) → is_dash bytes ≡ d → bytes_in (cond d (codes "%2D") (flat_map (λ b. escaped b) bytes)) ≡ Some bytes
    by_case true is = dash_again ∙ ap (λ l. Some l) (sym (bytes_is bytes (codes "-") is))
    by_case false is = all_again bytes small

-- a key's word is read as the key
pub key_again : (bytes : List ℕ) → All (λ b. b < 256) bytes → key_of (text_word bytes) ≡ Some bytes
unfolding key_of
key_again bytes small = rw (bytes_again bytes small, bytes_same (text_word bytes)) refl

-- ---- what is read has bytes

with_byte_is : (o : Option ℕ) (rest : Option (List ℕ)) (b : ℕ) (bytes : List ℕ) → with_byte o rest ≡ Some (b ∷ bytes) → (o ≡ Some b) × (rest ≡ Some bytes)
with_byte_is None rest b bytes is = cc
with_byte_is (Some x) None b bytes is = cc
with_byte_is (Some x) (Some more) b bytes is = (cc, cc)

byte_small : (high low : Option ℕ) (b : ℕ) → ((n : ℕ) → high ≡ Some n → n < 16) → ((n : ℕ) → low ≡ Some n → n < 16) → byte_of high low ≡ Some b → b < 256
byte_small None low b small_high small_low is = cc
byte_small (Some h) None b small_high small_low is = cc
byte_small (Some h) (Some l) b small_high small_low is =
    let e : h * 16 + l ≡ b = cc in
    omega (arith, e, small_high h refl, small_low l refl)

all_small : (bytes : List ℕ) → bytes_in (flat_map (λ b. escaped b) bytes) ≡ Some bytes → All (λ b. b < 256) bytes
all_small [] is = All-nil (λ b. b < 256)
all_small (b ∷ bytes) is = by_case (is_plain b) refl (λ e. all_small bytes e)
  where
    rest : List ℕ
    rest = flat_map (λ x. escaped x) bytes

    by_case : (p : Bool) → is_plain b ≡ p → (bytes_in rest ≡ Some bytes → All (λ x. x < 256) bytes) → All (λ x. x < 256) (b ∷ bytes)
    by_case true plain' more =
        let about = plain_is b plain' in
        let here : bytes_in (b ∷ rest) ≡ Some (b ∷ bytes) = rw plain' at is in
        let both = with_byte_is (Some b) (bytes_in rest) b bytes (sym (plain b rest about.0) ∙ here) in
        All-cons (λ x. x < 256) b bytes (omega (arith, about.2)) (more both.1)
    by_case false other more =
        let high = digit_glyph true (b / 16) in
        let low = digit_glyph true (b % 16) in
        let here : bytes_in (37 ∷ high ∷ low ∷ rest) ≡ Some (b ∷ bytes) = rw other at is in
        let both = with_byte_is (byte_of (digit_of high) (digit_of low)) (bytes_in rest) b bytes (sym (escape high low rest) ∙ here) in
        All-cons (λ x. x < 256) b bytes
        (byte_small (digit_of high) (digit_of low) b (λ n e. digit_small high n e) (λ n e. digit_small low n e) both.0)
        (more both.1)

bytes_small : (bytes : List ℕ) → bytes_in (text_word bytes) ≡ Some bytes → All (λ b. b < 256) bytes
unfolding text_word
bytes_small bytes is = by_case (is_dash bytes) refl is
  where
    by_case : (d : Bool) → is_dash bytes ≡ d → bytes_in (cond d (codes "%2D") (flat_map (λ b. escaped b) bytes)) ≡ Some bytes → All (λ b. b < 256) bytes
    by_case true dash is' =
        rw (bytes_is bytes (codes "-") dash) (All-cons (λ b. b < 256) 45 [] (omega arith) (All-nil (λ b. b < 256)))
    by_case false other is' = all_small bytes is'

-- a word that is read as a key is the key's word, and the key has bytes
pub key_found : (word bytes : List ℕ) → key_of word ≡ Some bytes → (word ≡ text_word bytes) × All (λ b. b < 256) bytes
unfolding key_of
key_found word bytes is =
    let read = bind_some (bytes_in word) _ bytes is in
    let spelled = if_none (bytes_eq (text_word read.0) word) _ bytes read.2 in
    let same : read.0 ≡ bytes = (let e = spelled.1 in cc) in
    let word_is : word ≡ text_word bytes = sym (bytes_is (text_word read.0) word spelled.0) ∙ ap text_word same in
    let again : bytes_in (text_word bytes) ≡ Some bytes = ap bytes_in (sym word_is) ∙ read.1 ∙ ap (λ l. Some l) same in
    (word_is, bytes_small bytes again)

-- ---- no byte of a key's word is a gap or a line end

differs : (x mark : ℕ) → 33 ≤ x → mark < 33 → eqb x mark ≡ false
differs x mark above below = grind (arith, nat_tests)

one_free : (mark x : ℕ) → 33 ≤ x → mark < 33 → HasNo mark (x ∷ [])
one_free mark x above below = All-cons (λ y. eqb y mark ≡ false) x [] (differs x mark above below) (All-nil (λ y. eqb y mark ≡ false))

three_free : (mark x y z : ℕ) → 33 ≤ x → 33 ≤ y → 33 ≤ z → mark < 33 → HasNo mark (x ∷ y ∷ z ∷ [])
three_free mark x y z a b c below =
    All-cons (λ w. eqb w mark ≡ false) x (y ∷ z ∷ []) (differs x mark a below)
    (All-cons (λ w. eqb w mark ≡ false) y (z ∷ []) (differs y mark b below) (one_free mark z c below))

escapes_free : (mark b : ℕ) → mark < 33 → HasNo mark (37 ∷ digit_glyph true (b / 16) ∷ digit_glyph true (b % 16) ∷ [])
escapes_free mark b below =
    let high = glyph_above (b / 16) in
    let low = glyph_above (b % 16) in
    three_free mark 37 (digit_glyph true (b / 16)) (digit_glyph true (b % 16)) (omega arith) (omega (arith, high)) (omega (arith, low)) below

escaped_free : (mark b : ℕ) → mark < 33 → HasNo mark (escaped b)
escaped_free mark b below = by_case (is_plain b) refl
  where
    by_case : (p : Bool) → is_plain b ≡ p → HasNo mark (escaped b)
    by_case true is = let about = plain_is b is in rw is (one_free mark b about.1 below)
    by_case false is = rw is (escapes_free mark b below)

all_free : (mark : ℕ) (bytes : List ℕ) → mark < 33 → HasNo mark (flat_map (λ b. escaped b) bytes)
all_free mark [] below = All-nil (λ x. eqb x mark ≡ false)
all_free mark (b ∷ bytes) below =
    All-append (λ x. eqb x mark ≡ false) (escaped b) (flat_map (λ x. escaped x) bytes) (escaped_free mark b below) (all_free mark bytes below)

pub key_free : (mark : ℕ) (bytes : List ℕ) → mark < 33 → HasNo mark (text_word bytes)
unfolding text_word
key_free mark bytes below = by_case (is_dash bytes)
  where
    by_case : (d : Bool) → HasNo mark (cond d (codes "%2D") (flat_map (λ b. escaped b) bytes))
    by_case true = three_free mark 37 50 68 (omega arith) (omega arith) (omega arith) below
    by_case false = all_free mark bytes below
