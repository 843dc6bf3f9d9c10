-- The name of a line's field, by where it ends.
use Rattle.std.proofs.Common.{◌≡◌, ℕ, suc, ◌+◌, ◌<◌, ◌≤◌, Bool, true, false, not, ◌&&◌, eqb, ltb, List, [], ◌∷◌, length, get_or, Some, None, refl, sym, ap, ◌∙◌, arith}
use Rattle.std.specs.List.{list_all, position_or_len}
use Rattle.std.specs.Str.{str_to_ascii_lowercase}
use Rattle.std.proofs.Math.Bool.{and-true}
use Rattle.std.proofs.lemmas.Bool.{false_from_ne_true, false≢true, or_parts, or_from, and_left, and_right, lt-ltb}
use Rattle.std.proofs.lemmas.Bool.Decides.{nat_tests}
use Rattle.std.proofs.lemmas.List.{get_or_past, length-map, length-take-le}
use Rattle.std.proofs.lemmas.List.Quantifiers.{position-Some}
use Rattle.std.proofs.lemmas.List.Sums.{passes_at_first, position_or_len_is, prefix_len-le-length}
use Rattle.std.proofs.lemmas.Slice.Eq.{bytes_eq-Decides}
use Rattle.lb_acl.specs.Bytes.{place_of}
use Rattle.set_cookie.proofs.Firsts.{place_no, before_no}
use Rattle.set_cookie.specs.Bytes.{has_mark}
use Rattle.set_cookie.specs.Fields.{field_name, is_field, is_field_line, is_visible}
use Rattle.set_cookie.specs.Names.{ends_name, may_end_at, name_end}

-- a name of visible bytes and `:`, where the name may be empty
abbrev is_named : List ℕ → Bool
is_named line = has_mark 58 line && list_all is_visible (field_name line)

abbrev name_len : List ℕ → ℕ
name_len line = position_or_len ends_name line

-- the byte that ends the name is `:`
abbrev ends_well : List ℕ → Bool
ends_well line = eqb (get_or line (name_len line) 0) 58

abbrev is_mark : ℕ → Bool
is_mark byte = eqb byte 58

module _ (x : ℕ) (xs : List ℕ) where
  -- one byte more in front
  name_goes_on : is_mark x ≡ false → is_visible x ≡ true → name_len (x ∷ xs) ≡ 1 + name_len xs
  name_goes_on e seen = place_no ends_name x xs (or_from _ _ e (ap not seen))

  ends_more : is_mark x ≡ false → is_visible x ≡ true → ends_well (x ∷ xs) ≡ ends_well xs
  ends_more e seen =
      let size : 1 + name_len xs ≡ suc (name_len xs) = omega arith in
      ap (λ n. eqb (get_or (x ∷ xs) n 0) 58) (name_goes_on e seen ∙ size)

  mark_more : is_mark x ≡ false → has_mark 58 (x ∷ xs) ≡ has_mark 58 xs
  mark_more e = let place = place_no is_mark x xs e in grind (arith, nat_tests, place)

  visible_more : is_mark x ≡ false → is_visible x ≡ true → list_all is_visible (field_name (x ∷ xs)) ≡ list_all is_visible (field_name xs)
  visible_more e seen = ap (list_all is_visible) (before_no is_mark x xs e) ∙ ap (λ b. b && list_all is_visible (field_name xs)) seen

  visible_ends : is_mark x ≡ false → is_visible x ≡ false → list_all is_visible (field_name (x ∷ xs)) ≡ false
  visible_ends e seen = ap (list_all is_visible) (before_no is_mark x xs e) ∙ ap (λ b. b && list_all is_visible (field_name xs)) seen

  some_name : is_mark x ≡ false → ltb 0 (length (field_name (x ∷ xs))) ≡ true
  some_name e = ap (λ ys. ltb 0 (length ys)) (before_no is_mark x xs e) ∙ lt-ltb _ _ (omega arith)

named : (line : List ℕ) → is_named line ≡ ends_well line
named [] = refl
named (x ∷ xs) = by (is_mark x) refl (is_visible x) refl (named xs)
  where
    by : (m : Bool) → is_mark x ≡ m → (v : Bool) → is_visible x ≡ v → is_named xs ≡ ends_well xs → is_named (x ∷ xs) ≡ ends_well (x ∷ xs)
    by true e v seen more = let some : ltb 0 (suc (length xs)) ≡ true = lt-ltb _ _ (omega arith) in rw (e, some) (sym e)
    by false e true seen more = rw (mark_more x xs e, visible_more x xs e seen) (more ∙ sym (ends_more x xs e seen))
    by false e false seen more = and_right _ _ (visible_ends x xs e seen) ∙ sym (rw (e, seen) e)

-- the name is empty, or ends well
by_len : (line : List ℕ) → is_field_line line ≡ (ltb 0 (name_len line) && ends_well line)
unfolding is_field_line
by_len [] = refl
by_len (x ∷ xs) = by (is_mark x) refl (is_visible x) refl
  where
    by : (m : Bool) → is_mark x ≡ m → (v : Bool) → is_visible x ≡ v → ((has_mark 58 (x ∷ xs) && ltb 0 (length (field_name (x ∷ xs)))) && list_all is_visible (field_name (x ∷ xs))) ≡ (ltb 0 (name_len (x ∷ xs)) && ends_well (x ∷ xs))
    by true e v seen = rw e (and_left _ _ (and_right _ _ refl))
    by false e true seen =
        let some : ltb 0 (name_len (x ∷ xs)) ≡ true = lt-ltb _ _ (omega (arith, name_goes_on x xs e seen)) in
        rw (some_name x xs e, some, and-true (has_mark 58 (x ∷ xs))) (named (x ∷ xs))
    by false e false seen = and_right _ _ (visible_ends x xs e seen) ∙ sym (rw (e, seen) refl)

end_is : (line : List ℕ) (end : ℕ) → name_end line ≡ Some end → name_len line ≡ end
end_is line end found =
    let at = position-Some ends_name line end 0 found in
    position_or_len_is ends_name line end 0 (omega (arith, at.0)) at.2 (λ _. at.1)

pub ends_within : (line : List ℕ) (end : ℕ) → name_end line ≡ Some end → end < length line
ends_within line end found = (position-Some ends_name line end 0 found).0

-- one walk over the name shows whether the line is a field line
pub field_line : (line : List ℕ) (end : ℕ) → name_end line ≡ Some end → is_field_line line ≡ (ltb 0 end && eqb (get_or line end 0) 58)
field_line line end found = by_len line ∙ ap (λ n. ltb 0 n && eqb (get_or line n 0) 58) (end_is line end found)

-- a line that never leaves its name is none
pub endless : (line : List ℕ) → name_end line ≡ None → is_field_line line ≡ false
endless line none =
    let past : length line ≤ name_len line = grind (arith, nat_tests) in
    let over : ends_well line ≡ false = ap (λ b. eqb b 58) (get_or_past line (name_len line) 0 past) in
    by_len line ∙ and_right _ _ over

-- a name that may not end there has another length
pub other_len : (name line : List ℕ) → may_end_at (length name) line ≡ false → is_field name line ≡ false
other_len name line other =
    false_from_ne_true (is_field name line) (λ same.
    let lower : str_to_ascii_lowercase (field_name line) ≡ str_to_ascii_lowercase name = (bytes_eq-Decides _ _).0 same in
    let sizes : length (field_name line) ≡ length name = simp (length-map) at (ap length lower) in
    let parts = or_parts (not (ltb (length name) (length line))) (is_mark (get_or line (length name) 0)) other in
    let place : place_of 58 line ≡ length name = omega (arith, sizes, length-take-le (place_of 58 line) line (prefix_len-le-length (λ b. not (is_mark b)) line)) in
    let within : length name < length line = grind (arith, nat_tests, parts.0) in
    let here : is_mark (get_or line (place_of 58 line) 0) ≡ true = passes_at_first is_mark line 0 (omega arith) in
    false≢true (sym parts.1 ∙ ap (λ n. is_mark (get_or line n 0)) (sym place) ∙ here))
