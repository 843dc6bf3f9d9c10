-- A server that is picked is a candidate.
use Rattle.std.proofs.Common.{◌≡◌, ℕ, ◌+◌, ◌<◌, Bool, true, false, not, ◌&&◌, ◌||◌, cond, eqb, Option, Some, None, List, [], ◌∷◌, length, map, take, refl, sym, ap, ◌∙◌, arith}
use Rattle.std.specs.Prelude.{filter}
use Rattle.std.specs.List.{find, enumerate_from, list_any}
use Rattle.std.specs.Option.{option_map, option_or}
use Rattle.std.proofs.lemmas.Bool.{false≢true, eqb-true}
use Rattle.std.proofs.lemmas.List.{length-map}
use Rattle.lb_types.specs.Servers.{has, meet}
use Rattle.cert_check_law.proofs.Views.{permitted_usable}
use Rattle.server_state.specs.Server.{ServerView, is_main, is_spare}
use Rattle.server_state.specs.Farm.{FarmView, usable_servers, main_servers, spare_servers, is_empty}
use Rattle.server_state.proofs.Picked.{has-usable}
use Rattle.lb_types.specs.declared.balance.Balance.{Balance}
use Rattle.lb_types.specs.declared.balance.Balance.TheVariants.{RoundRobin, LeastConnections, First}
use Rattle.lb_desk_model.specs.declared.event.Request.{Request}
use Rattle.lb_desk_model.specs.declared.stand.Stand.{Stand}
use Rattle.pin_set.specs.declared.table_pin.TablePin.{TablePin}
use Rattle.lb_desk_model.specs.Picks.{Picked, picked, stand, balanced, next_stand, least_loaded, is_least, first_free, round_from, is_behind, is_server_behind, stands, numbers, has_room}
use Rattle.lb_desk_model.specs.Serves.{want_of, permitted_to, may_hold, pick, pin_pick}
use Rattle.lb_desk_model.specs.States.{ServerState, State, usable, farm_of, seen_server}

-- what is found passes the test
pub found_passes : {X : Type 0} (p : X → Bool) (xs : List X) (x : X) → find p xs ≡ Some x → p x ≡ true
found_passes p [] x found = absurd cc
found_passes p (y ∷ xs) x found = go (p y) refl (found_passes p xs x) found
  where
    go : (b : Bool) → p y ≡ b → (find p xs ≡ Some x → p x ≡ true) → cond b (Some y) (find p xs) ≡ Some x → p x ≡ true
    go true e rest found = let same : y ≡ x = cc in ap p (sym same) ∙ e
    go false e rest found = rest found

and_first : (a b : Bool) → (a && b) ≡ true → a ≡ true
and_first true b e = refl
and_first false b e = absurd (false≢true e)

abbrev server_of : Picked → ℕ
server_of p = p.server

abbrev stand_server : Stand → ℕ
stand_server s = s.server

turn_chosen : (candidates : ℕ → Bool) (found : Option Stand) (cursor : Option Stand) (server : ℕ)
    → ((s : Stand) → found ≡ Some s → candidates s.server ≡ true)
    → option_map (λ s. picked (Some s) s.server) found ≡ Some (picked cursor server) → candidates server ≡ true
turn_chosen candidates None cursor server passes e = absurd cc
turn_chosen candidates (Some s) cursor server passes e =
    let same : picked (Some s) s.server ≡ picked cursor server = cc in
    ap candidates (sym (ap server_of same)) ∙ passes s refl

place_chosen : (candidates : ℕ → Bool) (found : Option ℕ) (to : ℕ → Option Stand) (cursor : Option Stand) (server : ℕ)
    → ((s : ℕ) → found ≡ Some s → candidates s ≡ true)
    → option_map (λ s. picked (to s) s) found ≡ Some (picked cursor server) → candidates server ≡ true
place_chosen candidates None to cursor server passes e = absurd cc
place_chosen candidates (Some s) to cursor server passes e =
    let same : picked (to s) s ≡ picked cursor server = cc in
    ap candidates (sym (ap server_of same)) ∙ passes s refl

free_chosen : (candidates : ℕ → Bool) (servers : List ServerState) (s : ℕ) → first_free candidates servers ≡ Some s → candidates s ≡ true
free_chosen candidates servers s e = go (find (λ s. candidates s && has_room servers s) (numbers servers)) refl e
  where
    go : (first : Option ℕ) → find (λ s. candidates s && has_room servers s) (numbers servers) ≡ first
        → option_or first (find candidates (numbers servers)) ≡ Some s → candidates s ≡ true
    go None none e = found_passes candidates (numbers servers) s e
    go (Some t) some e =
        let same : t ≡ s = cc in
        let passes = found_passes (λ s. candidates s && has_room servers s) (numbers servers) t some in
        ap candidates (sym same) ∙ and_first (candidates t) (has_room servers t) passes

balanced_chosen : (balance : Balance) (candidates : ℕ → Bool) (servers : List ServerState) (at cursor : Option Stand) (server : ℕ)
    → balanced balance candidates servers at ≡ Some (picked cursor server) → candidates server ≡ true
balanced_chosen RoundRobin candidates servers at cursor server e =
    turn_chosen candidates (next_stand candidates servers at) cursor server
    (λ s found. found_passes (λ (s : Stand). candidates s.server) (round_from (is_behind at) (stands servers)) s found) e
balanced_chosen LeastConnections candidates servers at cursor server e =
    place_chosen candidates (least_loaded candidates servers at) (λ s. Some (stand s 1)) cursor server
    (λ s found. and_first (candidates s) _ (found_passes (is_least candidates servers) (round_from (is_server_behind at) (numbers servers)) s found)) e
balanced_chosen First candidates servers at cursor server e =
    place_chosen candidates (first_free candidates servers) (λ s. at) cursor server (free_chosen candidates servers) e

pub pick_chosen : (state : State) (request : Request) (candidates : ℕ → Bool) (cursor : Option Stand) (server : ℕ)
    → pick state request candidates ≡ Some (picked cursor server) → candidates server ≡ true
pick_chosen state request candidates cursor server e = go (eqb (meet (want_of request) (usable state)) 0) e
  where
    go : (b : Bool) → cond b (balanced state.balance candidates state.servers state.cursor) (option_map (picked state.cursor) (find candidates request.rules)) ≡ Some (picked cursor server)
        → candidates server ≡ true
    go true e = balanced_chosen state.balance candidates state.servers state.cursor cursor server e
    go false e =
        place_chosen candidates (find candidates request.rules) (λ s. state.cursor) cursor server
        (λ s found. found_passes candidates request.rules s found) e

-- ---- usable servers are servers

numbered_below : (test : ServerView → Bool) (servers : List ServerView) (k s : ℕ)
    → list_any (λ u. eqb s u) (map (λ (n : ℕ × ServerView). n.0) (filter (λ (n : ℕ × ServerView). test n.1) (enumerate_from k servers))) ≡ true
    → s < k + length servers
numbered_below test [] k s e = absurd (false≢true e)
numbered_below test (x ∷ servers) k s e = go (test x) (eqb s k) refl (numbered_below test servers (k + 1) s) e
  where
    go : (b c : Bool) → eqb s k ≡ c
        → (list_any (λ u. eqb s u) (map (λ (n : ℕ × ServerView). n.0) (filter (λ (n : ℕ × ServerView). test n.1) (enumerate_from (k + 1) servers))) ≡ true → s < k + 1 + length servers)
        → list_any (λ u. eqb s u) (map (λ (n : ℕ × ServerView). n.0) (cond b ((k, x) ∷ filter (λ (n : ℕ × ServerView). test n.1) (enumerate_from (k + 1) servers)) (filter (λ (n : ℕ × ServerView). test n.1) (enumerate_from (k + 1) servers)))) ≡ true
        → s < k + length (x ∷ servers)
    go true true same rest e = let here : s ≡ k = eqb-true s k same in omega arith
    go true false other rest e = let later = rest (rw other at e) in omega arith
    go false c same rest e = let later = rest e in omega arith

pub any_first : (p : ℕ → Bool) (xs : List ℕ) → list_any p (take 1 xs) ≡ true → list_any p xs ≡ true
any_first p [] e = e
any_first p (x ∷ xs) e = go (p x) e
  where
    go : (b : Bool) → (b || false) ≡ true → (b || list_any p xs) ≡ true
    go true e = refl
    go false e = absurd (false≢true e)

pub usable_server : (state : State) (s : ℕ) → has (usable state) s ≡ true → s < length state.servers
usable_server state s e =
    let farm : FarmView = farm_of state in
    let listed : list_any (λ u. eqb s u) (usable_servers farm) ≡ true = sym (has-usable farm s) ∙ e in
    let many : length farm.servers ≡ length state.servers = length-map state.servers seen_server in
    let below : s < length farm.servers = go (is_empty (main_servers farm.servers)) farm.all_backups listed in
    omega arith
  where
    go : (b c : Bool)
        → list_any (λ u. eqb s u) (cond (not b) (main_servers (map seen_server state.servers)) (cond c (spare_servers (map seen_server state.servers)) (take 1 (spare_servers (map seen_server state.servers))))) ≡ true
        → s < length (map seen_server state.servers)
    go false c e = let below = numbered_below is_main (map seen_server state.servers) 0 s e in omega arith
    go true true e = let below = numbered_below is_spare (map seen_server state.servers) 0 s e in omega arith
    go true false e =
        let below = numbered_below is_spare (map seen_server state.servers) 0 s (any_first (λ u. eqb s u) (spare_servers (map seen_server state.servers)) e) in
        omega arith

-- a server that a pin goes to exists
pub pin_server : (state : State) (request : Request) (pins : List TablePin) (cursor : Option Stand) (server : ℕ)
    → pin_pick state request pins ≡ Some (picked cursor server) → server < length state.servers
pin_server state request pins cursor server e =
    let chosen = pick_chosen state request (may_hold state request pins) cursor server e in
    let permitted : has (permitted_to state request) server ≡ true = and_first (has (permitted_to state request) server) _ chosen in
    usable_server state server (permitted_usable (want_of request) (usable state) server permitted)
