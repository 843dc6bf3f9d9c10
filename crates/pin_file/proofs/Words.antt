-- The words of a pin's line, read and spelled.
use Rattle.std.proofs.Common.{◌≡◌, ℕ, ◌-◌, ◌^◌, ◌<◌, ◌≤◌, true, false, eqb, leb, ltb, inl, inr, Option, Some, None, List, [], ◌∷◌, length, codes, refl, sym, ap, subst, ◌∙◌, arith}
use Rattle.std.specs.Fmt.{decimal}
use Rattle.std.specs.List.{All, list_all, join_with_byte}
use Rattle.std.specs.Option.{IfSome}
use Rattle.std.specs.Str.{bytes_eq}
use Rattle.std.proofs.lemmas.Bool.Decides.{nat_tests}
use Rattle.std.proofs.lemmas.List.Elements.{All-nil, All-cons}
use Rattle.lb_types.specs.Names.{is_name, is_name_byte}
use Rattle.lb_types_text.specs.Numbers.{numeral_of}
use Rattle.lb_types_text.specs.Parts.{parts}
use Rattle.lb_types_text.proofs.Cuts.{some_part}
use Rattle.lb_types_text.proofs.Joins.{HasNo, join_parts, parts_join, free_join, part_alone}
use Rattle.lb_types_text.proofs.Numerals.{numeral_again, spelled_as}
use Rattle.dual_cert_text.specs.Words.{positive_of}
use Rattle.dual_cert_text.proofs.ServerTexts.{name_free, name_not_dash, differ_bytes}
use Rattle.dual_cert_text.proofs.Steps.{and_true, bind_some, either, if_none, unless_none, bytes_is}
use Rattle.dual_cert_text.proofs.WholeTexts.{no_mark}
use Rattle.pin_file.specs.Spellings.{wanted_word, server_word}
use Rattle.pin_file.specs.Texts.{wanted_of, server_of, cost_of, age_of}

-- ---- wanted servers

names_free : (mark : ℕ) (names : List (List ℕ)) → is_name_byte mark ≡ false → list_all is_name names ≡ true → All (HasNo mark) names
names_free mark [] other names' = All-nil (HasNo mark)
names_free mark (name ∷ names) other lawful =
    let both = and_true (is_name name) (list_all is_name names) lawful in
    All-cons (HasNo mark) name names (name_free mark name other both.0) (names_free mark names other both.1)

one_dash : parts 44 (codes "-") ≡ codes "-" ∷ []
one_dash = part_alone 44 (codes "-") (no_mark 44 (codes "-") refl)

first_is : (a b : List ℕ) (others more : List (List ℕ)) → a ∷ others ≡ b ∷ more → a ≡ b
first_is a b others more is = cc

join_not_dash : (name : List ℕ) (names : List (List ℕ)) → list_all is_name (name ∷ names) ≡ true → bytes_eq (join_with_byte 44 (name ∷ names)) (codes "-") ≡ false
join_not_dash name names lawful =
    differ_bytes (join_with_byte 44 (name ∷ names)) (codes "-") (λ same.
    let apart = sym (parts_join 44 name names (names_free 44 (name ∷ names) refl lawful)) ∙ ap (parts 44) same ∙ one_dash in
    let dash : name ≡ codes "-" = first_is name (codes "-") names [] apart in
    let named = (and_true (is_name name) (list_all is_name names) lawful).0 in
    let no : false ≡ true = sym (ap is_name dash) ∙ named in
    cc)

pub wanted_again : (names : List (List ℕ)) → list_all is_name names ≡ true → wanted_of (wanted_word names) ≡ Some names
unfolding wanted_of
wanted_again [] lawful = refl
wanted_again (name ∷ names) lawful =
    let apart = parts_join 44 name names (names_free 44 (name ∷ names) refl lawful) in
    rw (join_not_dash name names lawful, apart, lawful) refl

wanted_join : (names : List (List ℕ)) → 0 < length names → wanted_word names ≡ join_with_byte 44 names
wanted_join [] some = absurd (omega arith)
wanted_join (name ∷ names) some = refl

pub wanted_found : (word : List ℕ) (names : List (List ℕ)) → wanted_of word ≡ Some names → (word ≡ wanted_word names) × (list_all is_name names ≡ true)
unfolding wanted_of
wanted_found word names is = elim (either (bytes_eq word (codes "-")) _ _ _ is) [
  | inl dash ↦
      let none : [] ≡ names = (let e = dash.1 in cc) in
      let W : List (List ℕ) → Type 0 = λ l. (word ≡ wanted_word l) × (list_all is_name l ≡ true) in
      subst W none (bytes_is word (codes "-") dash.0, refl)
  | inr other ↦
      let lawful = if_none (list_all is_name (parts 44 word)) _ _ other.1 in
      let same : parts 44 word ≡ names = (let e = lawful.1 in cc) in
      let W : List (List ℕ) → Type 0 = λ l. (word ≡ wanted_word l) × (list_all is_name l ≡ true) in
      subst W same (sym (join_parts 44 word) ∙ sym (wanted_join (parts 44 word) (some_part 44 word)), lawful.0)
]

pub wanted_free : (mark : ℕ) (names : List (List ℕ)) → mark < 44 → is_name_byte mark ≡ false → list_all is_name names ≡ true → HasNo mark (wanted_word names)
wanted_free mark [] below other lawful = All-cons (λ b. eqb b mark ≡ false) 45 [] (grind (arith, nat_tests)) (All-nil (λ b. eqb b mark ≡ false))
wanted_free mark (name ∷ names) below other lawful = free_join mark 44 name names (omega arith) (names_free mark (name ∷ names) other lawful)

-- ---- the server

pub server_again : (server : Option (List ℕ)) → IfSome server (λ name. is_name name ≡ true) → server_of (server_word server) ≡ Some server
unfolding server_of
server_again None named = refl
server_again (Some name) named = rw (named, name_not_dash name named) refl

pub server_found : (word : List ℕ) (server : Option (List ℕ)) → server_of word ≡ Some server → (word ≡ server_word server) × IfSome server (λ name. is_name name ≡ true)
unfolding server_of
server_found word server is =
    let W : Option (List ℕ) → Type 0 = λ s. (word ≡ server_word s) × IfSome s (λ name. is_name name ≡ true) in
    elim (either (bytes_eq word (codes "-")) _ _ _ is) [
      | inl dash ↦ let none : None ≡ server = (let e = dash.1 in cc) in subst W none (bytes_is word (codes "-") dash.0, tt)
      | inr other ↦
          let named = if_none (is_name word) _ _ other.1 in
          let same : Some word ≡ server = (let e = named.1 in cc) in
          subst W same (refl, named.0)
    ]

pub server_free : (mark : ℕ) (server : Option (List ℕ)) → mark < 44 → is_name_byte mark ≡ false → IfSome server (λ name. is_name name ≡ true) → HasNo mark (server_word server)
server_free mark None below other named = All-cons (λ b. eqb b mark ≡ false) 45 [] (grind (arith, nat_tests)) (All-nil (λ b. eqb b mark ≡ false))
server_free mark (Some name) below other named = name_free mark name other named

-- ---- numbers

pub cost_again : (cost : ℕ) → 1 ≤ cost → cost ≤ 1000 → cost_of (decimal cost) ≡ Some cost
unfolding cost_of positive_of
cost_again cost some few =
    let z : eqb cost 0 ≡ false = grind (arith, nat_tests) in
    let l : leb cost 1000 ≡ true = grind (arith, nat_tests) in
    rw (numeral_again cost (omega arith), z, l) refl

pub cost_found : (word : List ℕ) (cost : ℕ) → cost_of word ≡ Some cost → (word ≡ decimal cost) × (1 ≤ cost) × (cost ≤ 1000)
unfolding cost_of positive_of
cost_found word cost is =
    let said = bind_some (positive_of word) _ cost is in
    let low = if_none (leb said.0 1000) _ cost said.2 in
    let same : said.0 ≡ cost = (let e = low.1 in cc) in
    let number = bind_some (numeral_of word) _ said.0 said.1 in
    let some = unless_none (eqb number.0 0) _ said.0 number.2 in
    let also : number.0 ≡ said.0 = (let e = some.1 in cc) in
    let within : said.0 ≤ 1000 = (let h = low.0 in grind (arith, nat_tests)) in
    let above : 1 ≤ number.0 = (let h = some.0 in grind (arith, nat_tests)) in
    let read : numeral_of word ≡ Some cost = number.1 ∙ ap (λ n. Some n) (also ∙ same) in
    (spelled_as word cost read (omega (arith, same)), omega (arith, also, same), omega (arith, same))

pub age_again : (age : ℕ) → age < 2 ^ 64 - 1 → age_of (decimal age) ≡ Some age
unfolding age_of
age_again age small =
    let l : ltb age (2 ^ 64 - 1) ≡ true = grind (arith, nat_tests) in
    rw (numeral_again age (omega arith), l) refl

pub age_found : (word : List ℕ) (age : ℕ) → age_of word ≡ Some age → (word ≡ decimal age) × (age < 2 ^ 64 - 1)
unfolding age_of
age_found word age is =
    let said = bind_some (numeral_of word) _ age is in
    let low = if_none (ltb said.0 (2 ^ 64 - 1)) _ age said.2 in
    let same : said.0 ≡ age = (let e = low.1 in cc) in
    let small : said.0 < 2 ^ 64 - 1 = (let h = low.0 in grind (arith, nat_tests)) in
    let read : numeral_of word ≡ Some age = said.1 ∙ ap (λ n. Some n) same in
    (spelled_as word age read (omega (arith, same)), omega (arith, same))
