-- Lines taken one after another.
use Rattle.std.proofs.Common.{◌≡◌, ℕ, ◌+◌, ◌<◌, false, ◌==◌, List, [], ◌∷◌, ◌++◌, length, refl, sym, arith}
use Rattle.std.proofs.lemmas.List.{append_assoc}
use Rattle.std.proofs.lemmas.Bool.Decides.{nat_tests}
use Rattle.lb_config_words.specs.LineView.{LineView}
use Rattle.lb_config_words.specs.Words.{spelled_of}
use Rattle.lb_config_words.specs.Lines.{told, lines_from, without_return}

-- lines in front of a line with an end
pub line_more : (front : List LineView) (number : ℕ) (part : List ℕ) (more : List (List ℕ)) → 0 < length more →
    front ++ lines_from number (part ∷ more) ≡ (front ++ told number (spelled_of (without_return part))) ++ lines_from (number + 1) more
unfolding lines_from
line_more front number part more some =
    let other : (length more == 0) ≡ false = grind (arith, nat_tests) in
    rw other (sym (append_assoc front (told number (spelled_of (without_return part))) (lines_from (number + 1) more)))

-- lines in front of the last one
pub line_last : (front : List LineView) (number : ℕ) (part : List ℕ) → front ++ lines_from number (part ∷ []) ≡ front ++ told number (spelled_of part)
unfolding lines_from
line_last front number part = refl
