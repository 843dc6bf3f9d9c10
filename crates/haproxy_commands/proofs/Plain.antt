-- A table's name is written as it is.
use Rattle.std.proofs.Common.{◌≡◌, ℕ, Bool, true, false, cond, eqb, List, [], ◌∷◌, ◌++◌, length, inl, inr, refl, sym, ap, ◌∙◌}
use Rattle.std.specs.List.{All, list_all, flat_map}
use Rattle.std.proofs.lemmas.Bool.Decides.{eqb_tells}
use Rattle.std.proofs.lemmas.List.Elements.{All-head, All-tail}
use Rattle.std.proofs.lemmas.List.Sums.{AllPass-from_list_all}
use Rattle.haproxy_commands.specs.Laws.{NamesAreWrittenAsTheyAre}
use Rattle.haproxy_commands.specs.Names.{is_name_byte}
use Rattle.haproxy_commands.specs.Writing.{needs_backslash, escaped, spelled}
use Rattle.haproxy_commands.proofs.Named.{both}

-- a number that passes isn't one that fails
differs : (p : ℕ → Bool) (x byte : ℕ) → p x ≡ false → p byte ≡ true → eqb byte x ≡ false
differs p x byte fails passes =
    elim (eqb_tells byte x) [ inl same ↦ absurd (let e : false ≡ true = sym fails ∙ sym (ap p same.1) ∙ passes in cc) | inr other ↦ other.0 ]

byte_is_plain : (byte : ℕ) → is_name_byte byte ≡ true → needs_backslash byte ≡ false
byte_is_plain byte passes =
    rw (differs is_name_byte 92 byte refl passes, differs is_name_byte 32 byte refl passes, differs is_name_byte 59 byte refl passes, differs is_name_byte 9 byte refl passes, differs is_name_byte 60 byte refl passes) refl

word_is_plain : (word : List ℕ) → All (λ byte. is_name_byte byte ≡ true) word → spelled word ≡ word
unfolding spelled
word_is_plain [] passes = refl
word_is_plain (byte ∷ more) passes =
    ap (λ (b : Bool). cond b (92 ∷ byte ∷ []) (byte ∷ []) ++ flat_map escaped more) (byte_is_plain byte (All-head (λ b. is_name_byte b ≡ true) byte more passes))
    ∙ ap (λ bytes. byte ∷ bytes) (word_is_plain more (All-tail (λ b. is_name_byte b ≡ true) byte more passes))

pub name_is_plain : NamesAreWrittenAsTheyAre
name_is_plain name passes =
    word_is_plain name (AllPass-from_list_all is_name_byte name (both (eqb (length name) 0) (list_all is_name_byte name) passes).1)
