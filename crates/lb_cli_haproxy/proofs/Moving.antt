-- The moves of the clients, one client after another.
use Rattle.std.proofs.Common.{◌≡◌, ℕ, ◌+◌, ◌<◌, ◌≤◌, List, [], ◌∷◌, ◌++◌, length, get_or, drop, drop-cons, add-one, suc, Option, Some, None, append_assoc, refl, sym, ap, ◌∙◌}
use Rattle.std.proofs.lemmas.List.{append-nil, drop_all}
use Rattle.std.specs.List.{cons_option}
use Rattle.lb_cli_haproxy.specs.declared.clients.Client.{Client}
use Rattle.lb_cli_haproxy.specs.Moves.{move_of, moves_of}

one_of : {X : Type 0} (x : Option X) (xs : List X) → cons_option x xs ≡ cons_option x [] ++ xs
one_of None xs = refl
one_of (Some x) xs = refl

pub front_of : {X : Type 0} (xs : List X) (i : ℕ) (x : X) → i < length xs → x ≡ get_or xs i x → drop i xs ≡ x ∷ drop (i + 1) xs
front_of xs i x within is = rw (add-one, drop-cons xs i x) (ap (λ y. y ∷ drop (suc i) xs) (sym is))

first_move : (numbers : List ℕ) (all_clients clients : List Client) (all_places places : List (Option ℕ)) (client : Client) (place : Option ℕ)
    → all_clients ≡ client ∷ clients → all_places ≡ place ∷ places
    → moves_of numbers all_clients all_places ≡ cons_option (move_of numbers client place) [] ++ moves_of numbers clients places
unfolding moves_of
first_move numbers all_clients clients all_places places client place a b = rw (a, b) (one_of (move_of numbers client place) (moves_of numbers clients places))

-- a client more
pub one_more : (numbers : List ℕ) (clients : List Client) (places : List (Option ℕ)) (i : ℕ) (client : Client) (place : Option ℕ) (all before after : List (List ℕ × ℕ))
    → i < length clients → i < length places → client ≡ get_or clients i client → place ≡ get_or places i place
    → before ++ moves_of numbers (drop i clients) (drop i places) ≡ all → after ≡ before ++ cons_option (move_of numbers client place) []
    → after ++ moves_of numbers (drop (i + 1) clients) (drop (i + 1) places) ≡ all
one_more numbers clients places i client place all before after within inside is_client is_place was grows =
    let split = first_move numbers (drop i clients) (drop (i + 1) clients) (drop i places) (drop (i + 1) places) client place
    (front_of clients i client within is_client) (front_of places i place inside is_place) in
    rw (grows, append_assoc) (rw split at was)

-- no client is left
pub none_left : (numbers : List ℕ) (clients : List Client) (places : List (Option ℕ)) (i : ℕ) (all before : List (List ℕ × ℕ))
    → length clients ≤ i → before ++ moves_of numbers (drop i clients) (drop i places) ≡ all → before ≡ all
unfolding moves_of
none_left numbers clients places i all before past was =
    let empty : drop i clients ≡ [] = drop_all i clients past in
    let done : before ++ [] ≡ all = rw empty at was in
    sym (append-nil before) ∙ done
