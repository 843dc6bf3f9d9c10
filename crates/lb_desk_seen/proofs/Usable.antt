-- A usable server serves, so a pin that moves goes to another place.
use Rattle.std.proofs.Common.{◌≡◌, ℕ, ◌+◌, zero, suc, Bool, true, false, not, ◌&&◌, ◌||◌, cond, eqb, Option, Some, List, [], ◌∷◌, map, take, slice_get, refl, sym, ◌∙◌, arith}
use Rattle.std.specs.Prelude.{filter}
use Rattle.std.specs.List.{enumerate_from, list_any}
use Rattle.std.specs.Option.{option_map_or}
use Rattle.std.proofs.lemmas.Bool.{false≢true, eqb-true, and_parts}
use Rattle.lb_types.specs.Servers.{has, meet}
use Rattle.lb_types.proofs.Sets.{has-meet}
use Rattle.pin_set.specs.Pins.{permitted, honoured}
use Rattle.server_state.specs.Server.{ServerView, serves, is_main, is_spare, is_ready}
use Rattle.server_state.specs.Farm.{FarmView, usable_servers, main_servers, spare_servers, is_empty}
use Rattle.server_state.proofs.Picked.{has-usable}
use Rattle.lb_desk_model.specs.declared.event.Request.{Request}
use Rattle.lb_desk_model.specs.declared.stand.Stand.{Stand}
use Rattle.pin_set.specs.declared.table_pin.TablePin.{TablePin}
use Rattle.lb_desk_model.specs.Picks.{picked}
use Rattle.lb_desk_model.specs.Serves.{want_of, permitted_to, may_hold, pin_pick}
use Rattle.lb_desk_model.specs.States.{State, farm_of, serving, usable}
use Rattle.lb_desk_law.proofs.Chosen.{any_first, pick_chosen}
use Rattle.cert_check_law.proofs.Views.{permitted_usable}

taking_serves : (b s r w : Bool) → (not b && (s && r && w)) ≡ true → s ≡ true
taking_serves b true r w e = refl
taking_serves true false r w e = absurd (false≢true e)
taking_serves false false r w e = absurd (false≢true e)

spare_serves : (b s r w : Bool) → (b && (s && r && w)) ≡ true → s ≡ true
spare_serves b true r w e = refl
spare_serves true false r w e = absurd (false≢true e)
spare_serves false false r w e = absurd (false≢true e)

main_is_serving : (x : ServerView) → is_main x ≡ true → serves x ≡ true
main_is_serving x e = taking_serves x.backup (serves x) (is_ready x.admin) _ e

spare_is_serving : (x : ServerView) → is_spare x ≡ true → serves x ≡ true
spare_is_serving x e = spare_serves x.backup (serves x) (is_ready x.admin) _ e

abbrev ServesAt : List ServerView → ℕ → Type 0
ServesAt servers i = option_map_or serves (slice_get servers i) false ≡ true

abbrev listed : (ServerView → Bool) → ℕ → List ServerView → List ℕ
listed test k servers = map (λ (n : ℕ × ServerView). n.0) (filter (λ (n : ℕ × ServerView). test n.1) (enumerate_from k servers))

listed_serves : (test : ServerView → Bool) → ((x : ServerView) → test x ≡ true → serves x ≡ true) → (servers : List ServerView) (k s : ℕ)
    → list_any (λ u. eqb s u) (listed test k servers) ≡ true → (i : ℕ) × (s ≡ k + i) × ServesAt servers i
listed_serves test good [] k s e = absurd (false≢true e)
listed_serves test good (x ∷ servers) k s e = go (test x) (eqb s k) refl refl (listed_serves test good servers (k + 1) s) e
  where
    later : (i : ℕ) × (s ≡ k + 1 + i) × ServesAt servers i → (i : ℕ) × (s ≡ k + i) × ServesAt (x ∷ servers) i
    later found = let is = found.1 in (suc found.0, omega arith, found.2)

    go : (b c : Bool) → test x ≡ b → eqb s k ≡ c
        → (list_any (λ u. eqb s u) (listed test (k + 1) servers) ≡ true → (i : ℕ) × (s ≡ k + 1 + i) × ServesAt servers i)
        → list_any (λ u. eqb s u) (map (λ (n : ℕ × ServerView). n.0) (cond b ((k, x) ∷ filter (λ (n : ℕ × ServerView). test n.1) (enumerate_from (k + 1) servers)) (filter (λ (n : ℕ × ServerView). test n.1) (enumerate_from (k + 1) servers)))) ≡ true
        → (i : ℕ) × (s ≡ k + i) × ServesAt (x ∷ servers) i
    go true true passes same rest e = let here : s ≡ k = eqb-true s k same in (zero, omega arith, good x passes)
    go true false passes other rest e = later (rest (rw other at e))
    go false c passes same rest e = later (rest e)

serves_there : (servers : List ServerView) (s : ℕ) → (i : ℕ) × (s ≡ 0 + i) × ServesAt servers i → ServesAt servers s
serves_there servers s found =
    let number = found.1 in
    let is : s ≡ found.0 = omega arith in
    rw is found.2

usable_serves : (farm : FarmView) (s : ℕ) → list_any (λ u. eqb s u) (usable_servers farm) ≡ true → ServesAt farm.servers s
usable_serves farm s e = go (is_empty (main_servers farm.servers)) farm.all_backups e
  where
    go : (b c : Bool)
        → list_any (λ u. eqb s u) (cond (not b) (main_servers farm.servers) (cond c (spare_servers farm.servers) (take 1 (spare_servers farm.servers)))) ≡ true
        → ServesAt farm.servers s
    go false c e = serves_there farm.servers s (listed_serves is_main main_is_serving farm.servers 0 s e)
    go true true e = serves_there farm.servers s (listed_serves is_spare spare_is_serving farm.servers 0 s e)
    go true false e =
        serves_there farm.servers s (listed_serves is_spare spare_is_serving farm.servers 0 s (any_first (λ u. eqb s u) (spare_servers farm.servers) e))

-- a permitted server that serves honours its pin
permitted_honours : (want usable server : ℕ) (serving : Bool) → has (permitted want usable) server ≡ true → serving ≡ true
    → honoured (Some server) want usable serving ≡ true
permitted_honours want usable server serving may e =
    rw e (go (eqb want 0) (has want server) (eqb (meet want usable) 0) (λ some. wanted some may))
  where
    wanted : eqb (meet want usable) 0 ≡ false → has (permitted want usable) server ≡ true → has want server ≡ true
    wanted some may =
        let there : has (meet want usable) server ≡ true = rw some at may in
        (and_parts (has want server) (has usable server) (sym (has-meet want usable server) ∙ there)).0

    go : (a b c : Bool) → (c ≡ false → b ≡ true) → (a || b || c) ≡ true
    go true b c f = refl
    go false true c f = refl
    go false false true f = refl
    go false false false f = f refl

-- the server that a pin goes to would honour it
pub picked_honours : (state : State) (request : Request) (pins : List TablePin) (cursor : Option Stand) (server : ℕ)
    → pin_pick state request pins ≡ Some (picked cursor server)
    → honoured (Some server) (want_of request) (usable state) (serving state server) ≡ true
picked_honours state request pins cursor server e =
    let chosen = pick_chosen state request (may_hold state request pins) cursor server e in
    let may : has (permitted_to state request) server ≡ true = (and_parts (has (permitted_to state request) server) _ chosen).0 in
    let is_usable : has (usable state) server ≡ true = permitted_usable (want_of request) (usable state) server may in
    permitted_honours (want_of request) (usable state) server (serving state server) may
    (usable_serves (farm_of state) server (sym (has-usable (farm_of state) server) ∙ is_usable))
