-- The room of the servers, one server after another.
use Rattle.std.proofs.Common.{◌≡◌, ℕ, ◌+◌, ◌<◌, ◌≤◌, Option, List, [], ◌∷◌, ◌++◌, length, get_or, drop, append_assoc, refl, sym, ◌∙◌}
use Rattle.std.proofs.lemmas.List.{append-nil, drop_all}
use Rattle.pin_set.specs.declared.view.ViewServer.{ViewServer}
use Rattle.lb_cli_haproxy.specs.Sheets.{farm_with, server_with}
use Rattle.lb_cli_haproxy.proofs.Moving.{front_of}

first_room : (share : ℕ) (places : List (Option ℕ)) (at : ℕ) (all servers : List ViewServer) (server : ViewServer)
    → all ≡ server ∷ servers → farm_with share places at all ≡ server_with share places at server ∷ farm_with share places (at + 1) servers
unfolding farm_with
first_room share places at all servers server is = rw is refl

-- a server more with its room
pub one_room : (share : ℕ) (places : List (Option ℕ)) (bare : List ViewServer) (i : ℕ) (server made : ViewServer) (all before after : List ViewServer)
    → i < length bare → server ≡ get_or bare i server → made ≡ server_with share places i server
    → before ++ farm_with share places i (drop i bare) ≡ all → after ≡ before ++ made ∷ []
    → after ++ farm_with share places (i + 1) (drop (i + 1) bare) ≡ all
one_room share places bare i server made all before after within is room was grows =
    let split = first_room share places i (drop i bare) (drop (i + 1) bare) server (front_of bare i server within is) in
    rw (grows, append_assoc, room) (rw split at was)

-- no server is left
pub no_room : (share : ℕ) (places : List (Option ℕ)) (bare : List ViewServer) (i : ℕ) (all before : List ViewServer)
    → length bare ≤ i → before ++ farm_with share places i (drop i bare) ≡ all → before ≡ all
unfolding farm_with
no_room share places bare i all before past was =
    let empty : drop i bare ≡ [] = drop_all i bare past in
    let done : before ++ [] ≡ all = rw empty at was in
    sym (append-nil before) ∙ done
