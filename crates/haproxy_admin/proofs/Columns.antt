-- Columns and the words that stand in them, one after another.
use Rattle.std.proofs.Common.{◌≡◌, ℕ, suc, true, false, leb, List, [], ◌∷◌, length, refl, sym, ◌∙◌, ⊎_elim, arith}
use Rattle.std.specs.Str.{bytes_eq}
use Rattle.std.proofs.lemmas.Bool.{cases_lt, le-leb, lt-leb}
use Rattle.haproxy_admin.specs.Columns.{has_column, has_enough, word_at}

pub column_here : (name column : List ℕ) (names rest : List (List ℕ)) → names ≡ column ∷ rest → bytes_eq column name ≡ true → has_column name names ≡ true
unfolding has_column
column_here name column names rest is here = rw (is, here) refl

pub column_later : (name column : List ℕ) (names rest : List (List ℕ)) → names ≡ column ∷ rest → bytes_eq column name ≡ false → has_column name names ≡ has_column name rest
unfolding has_column
column_later name column names rest is other = rw (is, other) refl

pub no_column : (name : List ℕ) (names : List (List ℕ)) → names ≡ [] → has_column name names ≡ false
unfolding has_column
no_column name names is = rw is refl

below_both : (m n : ℕ) → leb (suc m) (suc n) ≡ leb m n
below_both m n =
    ⊎_elim (λ h. lt-leb (suc m) (suc n) (omega (arith, h)) ∙ sym (lt-leb m n h)) (λ h. le-leb (suc m) (suc n) (omega (arith, h)) ∙ sym (le-leb m n h)) (cases_lt n m)

pub enough_later : (column word : List ℕ) (names words rest more : List (List ℕ)) → names ≡ column ∷ rest → words ≡ word ∷ more → has_enough names words ≡ has_enough rest more
unfolding has_enough
enough_later column word names words rest more is has = rw (is, has) (below_both (length rest) (length more))

pub too_few : (column : List ℕ) (names words rest : List (List ℕ)) → names ≡ column ∷ rest → words ≡ [] → has_enough names words ≡ false
unfolding has_enough
too_few column names words rest is none = rw (is, none) (lt-leb (suc (length rest)) 0 (omega arith))

pub enough : (names words : List (List ℕ)) → names ≡ [] → has_enough names words ≡ true
unfolding has_enough
enough names words is = rw is (le-leb 0 (length words) (omega arith))

pub word_here : (name column word : List ℕ) (names words rest more : List (List ℕ)) → names ≡ column ∷ rest → words ≡ word ∷ more → bytes_eq column name ≡ true → word_at name names words ≡ word
unfolding word_at
word_here name column word names words rest more is has here = rw (is, has, here) refl

pub word_later : (name column word : List ℕ) (names words rest more : List (List ℕ)) → names ≡ column ∷ rest → words ≡ word ∷ more → bytes_eq column name ≡ false → word_at name names words ≡ word_at name rest more
unfolding word_at
word_later name column word names words rest more is has other = rw (is, has, other) refl

pub no_word : (name column : List ℕ) (names words rest : List (List ℕ)) → names ≡ column ∷ rest → words ≡ [] → word_at name names words ≡ []
unfolding word_at
no_word name column names words rest is none = rw (is, none) refl

pub no_name : (name : List ℕ) (names words : List (List ℕ)) → names ≡ [] → word_at name names words ≡ []
unfolding word_at
no_name name names words is = rw is refl
