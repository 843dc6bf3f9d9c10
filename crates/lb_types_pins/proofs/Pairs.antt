-- A fact of each element and each later one, by first element and rest.
use Rattle.std.proofs.Common.{◌≡◌, ℕ, zero, suc, ◌<◌, List, [], ◌∷◌, length, arith}
use Rattle.std.specs.List.{All, AllPairs}
use Rattle.std.proofs.lemmas.List.Elements.{All-get_or, All-from_get_or}

pub AllPairs-nil : {X : Type 0} (R : X → X → Type 0) → AllPairs R []
AllPairs-nil R i j d below within = absurd (omega arith)

pub AllPairs-cons : {X : Type 0} (R : X → X → Type 0) (x : X) (xs : List X) → All (R x) xs → AllPairs R xs → AllPairs R (x ∷ xs)
AllPairs-cons R x xs first later zero zero d below within = absurd (omega arith)
AllPairs-cons R x xs first later zero (suc j) d below within = All-get_or (R x) xs j d (omega arith) first
AllPairs-cons R x xs first later (suc i) zero d below within = absurd (omega arith)
AllPairs-cons R x xs first later (suc i) (suc j) d below within = later i j d (omega arith) (omega arith)

pub AllPairs-head : {X : Type 0} (R : X → X → Type 0) (x : X) (xs : List X) → AllPairs R (x ∷ xs) → All (R x) xs
AllPairs-head R x xs all = All-from_get_or (R x) xs x (λ j within. all 0 (suc j) x (omega arith) (omega arith))

pub AllPairs-tail : {X : Type 0} (R : X → X → Type 0) (x : X) (xs : List X) → AllPairs R (x ∷ xs) → AllPairs R xs
AllPairs-tail R x xs all i j d below within = all (suc i) (suc j) d (omega arith) (omega arith)
