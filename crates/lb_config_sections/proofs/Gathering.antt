-- Names gathered one after another.
use Rattle.std.proofs.Common.{◌≡◌, ℕ, ◌+◌, ◌<◌, ◌≤◌, List, ◌∷◌, ◌++◌, length, get_or, drop, Option, sym, ap, ◌∙◌}
use Rattle.std.specs.Option.{option_to_list}
use Rattle.std.proofs.lemmas.List.{drop_all, at_drop_more, append_assoc, append-nil}
use Rattle.lb_config_sections.specs.Names.{gathered}

-- names so far, in front of the next one's
pub gather_more : {X : Type 0} (f : X → Option (List ℕ)) (front : List (List ℕ)) (xs : List X) (i : ℕ) (x : X) → i < length xs → x ≡ get_or xs i x →
    front ++ gathered f (drop i xs) ≡ (front ++ option_to_list (f x)) ++ gathered f (drop (i + 1) xs)
gather_more f front xs i x within is =
    at_drop_more (λ rest. front ++ gathered f rest) xs i x within ∙ ap (λ first. front ++ gathered f (first ∷ drop (i + 1) xs)) (sym is)
    ∙ sym (append_assoc front (option_to_list (f x)) (gathered f (drop (i + 1) xs)))

-- no one is left
pub gather_end : {X : Type 0} (f : X → Option (List ℕ)) (front : List (List ℕ)) (xs : List X) (i : ℕ) → length xs ≤ i → front ++ gathered f (drop i xs) ≡ front
gather_end f front xs i past = ap (λ rest. front ++ gathered f rest) (drop_all i xs past) ∙ append-nil front
