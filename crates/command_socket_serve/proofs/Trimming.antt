-- A line up to its last word, found from the line's end.
use Rattle.std.proofs.Common.{◌≡◌, ℕ, Bool, true, false, ◌&&◌, List, [], ◌∷◌, ◌++◌, length, refl, sym, ap, ◌∙◌}
use Rattle.std.specs.List.{list_all}
use Rattle.command_socket_serve.specs.Requests.{parts_words, up_to_last_word}

all_with : (p : ℕ → Bool) (text : List ℕ) (last : ℕ) → p last ≡ true → list_all p (text ++ last ∷ []) ≡ list_all p text
all_with p [] last is = rw is refl
all_with p (byte ∷ text) last is = ap (λ rest. p byte && rest) (all_with p text last is)

and_false : (b : Bool) → (b && false) ≡ false
and_false true = refl
and_false false = refl

all_without : (p : ℕ → Bool) (text : List ℕ) (last : ℕ) → p last ≡ false → list_all p (text ++ last ∷ []) ≡ false
all_without p [] last is = rw is refl
all_without p (byte ∷ text) last is = rw (all_without p text last is) (and_false (p byte))

-- a byte that parts words, at the end, is no part of it
shorter : (text : List ℕ) (last : ℕ) → parts_words last ≡ true → up_to_last_word (text ++ last ∷ []) ≡ up_to_last_word text
unfolding up_to_last_word
shorter [] last parts = rw parts refl
shorter (byte ∷ text) last parts = rw (all_with parts_words text last parts, shorter text last parts) refl

-- a line that ends with a word is all of it
whole : (text : List ℕ) (last : ℕ) → parts_words last ≡ false → up_to_last_word (text ++ last ∷ []) ≡ text ++ last ∷ []
unfolding up_to_last_word
whole [] last parts = rw parts refl
whole (byte ∷ text) last parts = rw (all_without parts_words text last parts, and_false (parts_words byte), whole text last parts) refl

module _ (line text rest : List ℕ) (last : ℕ) where
  -- a byte that parts words is taken off
  pub goes_on : text ≡ rest ++ last ∷ [] → true ≡ parts_words last → up_to_last_word text ≡ up_to_last_word line
      → up_to_last_word rest ≡ up_to_last_word line
  goes_on split parts so_far = sym (ap up_to_last_word split ∙ shorter rest last (sym parts)) ∙ so_far

  -- a word ends the text
  pub ends : text ≡ rest ++ last ∷ [] → false ≡ parts_words last → up_to_last_word text ≡ up_to_last_word line → text ≡ up_to_last_word line
  ends split parts so_far = sym (ap up_to_last_word split ∙ whole rest last (sym parts) ∙ sym split) ∙ so_far

-- nothing is left
pub nothing : (line text : List ℕ) → length text ≡ 0 → up_to_last_word text ≡ up_to_last_word line → text ≡ up_to_last_word line
unfolding up_to_last_word
nothing line [] empty so_far = so_far
nothing line (byte ∷ text) empty so_far = cc
