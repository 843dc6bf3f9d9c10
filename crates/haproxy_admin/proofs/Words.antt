-- The words after a key, one after another.
use Rattle.std.proofs.Common.{◌≡◌, ℕ, true, false, Some, None, List, [], ◌∷◌, length, refl}
use Rattle.std.specs.List.{list_all}
use Rattle.lb_types_text.specs.Parts.{parts}
use Rattle.haproxy_admin.specs.Fields.{is_field, value_in, value_of, words_after}

pub after_blank : (rest text : List ℕ) (blank : ℕ) → rest ≡ blank ∷ text → words_after rest ≡ parts 32 text
unfolding words_after
after_blank rest text blank is = rw is refl

pub after_nothing : (rest : List ℕ) → length rest ≡ 0 → words_after rest ≡ []
unfolding words_after
after_nothing [] empty = refl
after_nothing (byte ∷ rest) empty = cc

pub good_word : (lines : List (List ℕ)) (word : List ℕ) (words : List (List ℕ)) → lines ≡ word ∷ words → is_field word ≡ true → list_all is_field lines ≡ list_all is_field words
good_word lines word words is good = rw (is, good) refl

pub bad_word : (lines : List (List ℕ)) (word : List ℕ) (words : List (List ℕ)) → lines ≡ word ∷ words → is_field word ≡ false → list_all is_field lines ≡ false
bad_word lines word words is bad = rw (is, bad) refl

pub value_here : (name : List ℕ) (lines : List (List ℕ)) (word value : List ℕ) (words : List (List ℕ)) → lines ≡ word ∷ words → Some value ≡ value_in name word → value_of name lines ≡ Some value
unfolding value_of
value_here name lines word value words is here = rw (is, ← here) refl

pub value_later : (name : List ℕ) (lines : List (List ℕ)) (word : List ℕ) (words : List (List ℕ)) → lines ≡ word ∷ words → None ≡ value_in name word → value_of name lines ≡ value_of name words
unfolding value_of
value_later name lines word words is none = rw (is, ← none) refl

pub no_value : (name : List ℕ) (lines : List (List ℕ)) → lines ≡ [] → value_of name lines ≡ None
unfolding value_of
no_value name lines is = rw is refl
