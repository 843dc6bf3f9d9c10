-- What the farm and the book say of servers that are seen so.
use Rattle.std.proofs.Common.{◌≡◌, ℕ, ◌+◌, ◌*◌, ◌<◌, suc, Bool, true, false, not, ◌&&◌, ◌||◌, cond, eqb, ltb, leb, Option, Some, None, List, [], ◌∷◌, length, map, take, get_or, refl, sym, ap, ◌∙◌, arith}
use Rattle.std.specs.Prelude.{filter, slice_get}
use Rattle.std.specs.List.{enumerate_from, list_any}
use Rattle.std.specs.Option.{option_map, option_map_or, unwrap_or}
use Rattle.std.proofs.lemmas.Bool.{false≢true, eqb-true, ltb-true, and_parts}
use Rattle.std.proofs.lemmas.List.{length-map}
use Rattle.std.proofs.lemmas.Option.{slice_get-map, unwrap_or-slice_get}
use Rattle.lb_types.specs.Servers.{has}
use Rattle.server_state.specs.Server.{ServerView, serves, is_ready, takes_pins, is_main, is_spare}
use Rattle.server_state.specs.Farm.{FarmView, usable, main_servers, spare_servers, is_empty, weight_of, max_connections_of, capacity_of}
use Rattle.server_state.proofs.Picked.{has-usable}
use Rattle.capacity_book.specs.Book.{BookView}
use Rattle.capacity_book.specs.Book.{connections_at as open_at}
use Rattle.lb_desk_model.specs.Picks.{weight_at, connections_at, max_connections_at, has_room}
use Rattle.lb_desk_model.specs.Picks.{is_as_free as is_as_free_at}
use Rattle.lb_desk_model.specs.Serves.{capacity_at}
use Rattle.lb_desk_model.specs.States.{ServerState, seen_server}
use Rattle.lb_desk_pick.specs.Sights.{AreSeen}
use Rattle.lb_desk_pick.specs.Walks.{is_as_free, has_connection}

abbrev pub connections_of : ServerState → ℕ
connections_of s = s.connections

pub length_seen : (farm : FarmView) (servers : List ServerState) → map seen_server servers ≡ farm.servers → length servers ≡ length farm.servers
length_seen farm servers seen = sym (length-map servers seen_server) ∙ ap length seen

-- what a field of a seen server is, is what it was
field_seen : (field : ServerView → ℕ) (own : ServerState → ℕ) → ((s : ServerState) → field (seen_server s) ≡ own s)
    → (farm : FarmView) (servers : List ServerState) → map seen_server servers ≡ farm.servers → (s : ℕ)
    → option_map_or own (slice_get servers s) 0 ≡ option_map_or field (slice_get farm.servers s) 0
field_seen field own same farm servers seen s =
    go (slice_get servers s)
    ∙ ap (λ (o : Option ServerView). option_map_or field o 0) (sym (slice_get-map seen_server servers s) ∙ ap (λ (xs : List ServerView). slice_get xs s) seen)
  where
    go : (o : Option ServerState) → option_map_or own o 0 ≡ option_map_or field (option_map seen_server o) 0
    go None = refl
    go (Some found) = sym (same found)

pub weight_seen : (farm : FarmView) (servers : List ServerState) → map seen_server servers ≡ farm.servers → (s : ℕ)
    → weight_at servers s ≡ weight_of farm s
weight_seen farm servers seen s = field_seen (λ v. v.weight) (λ v. v.weight) (λ v. refl) farm servers seen s

pub limit_seen : (farm : FarmView) (servers : List ServerState) → map seen_server servers ≡ farm.servers → (s : ℕ)
    → max_connections_at servers s ≡ max_connections_of farm s
limit_seen farm servers seen s = field_seen (λ v. v.max_connections) (λ v. v.max_connections) (λ v. refl) farm servers seen s

pub capacity_seen : (farm : FarmView) (servers : List ServerState) → map seen_server servers ≡ farm.servers → (s : ℕ)
    → capacity_at servers s ≡ capacity_of farm s
capacity_seen farm servers seen s = field_seen (λ v. v.max_pins) (λ v. v.capacity) (λ v. refl) farm servers seen s

pub connections_seen : (book : BookView) (servers : List ServerState) → map connections_of servers ≡ book.connections → (s : ℕ)
    → connections_at servers s ≡ open_at book s
connections_seen book servers seen s =
    go (slice_get servers s)
    ∙ (ap (λ (o : Option ℕ). unwrap_or o 0) (sym (slice_get-map connections_of servers s))
    ∙ (unwrap_or-slice_get (map connections_of servers) s 0 ∙ ap (λ (xs : List ℕ). get_or xs s 0) seen))
  where
    go : (o : Option ServerState) → option_map_or (λ v. v.connections) o 0 ≡ unwrap_or (option_map connections_of o) 0
    go None = refl
    go (Some found) = refl

pub free_seen : (farm : FarmView) (book : BookView) (servers : List ServerState) → AreSeen farm book servers
    → is_as_free_at servers ≡ is_as_free farm book
free_seen farm book servers seen =
    let weight : weight_at servers ≡ weight_of farm = λ i s. weight_seen farm servers seen.settings s i in
    let open_ : connections_at servers ≡ open_at book = λ i s. connections_seen book servers seen.connections s i in
    λ i one other. leb (open_ i one * weight i other) (open_ i other * weight i one)

pub room_seen : (farm : FarmView) (book : BookView) (servers : List ServerState) → AreSeen farm book servers
    → has_room servers ≡ has_connection farm book
room_seen farm book servers seen =
    let limit : max_connections_at servers ≡ max_connections_of farm = λ i s. limit_seen farm servers seen.settings s i in
    let open_ : connections_at servers ≡ open_at book = λ i s. connections_seen book servers seen.connections s i in
    λ i s. eqb (limit i s) 0 || ltb (open_ i s) (limit i s)

-- ---- usable servers have a weight

numbered_at : (test : ServerView → Bool) (servers : List ServerView) (k s : ℕ)
    → list_any (λ u. eqb s u) (map (λ (n : ℕ × ServerView). n.0) (filter (λ (n : ℕ × ServerView). test n.1) (enumerate_from k servers))) ≡ true
    → (i : ℕ) × (found : ServerView) × (s ≡ k + i) × (slice_get servers i ≡ Some found) × (test found ≡ true)
numbered_at test [] k s e = absurd (false≢true e)
numbered_at test (x ∷ servers) k s e = go (test x) (eqb s k) refl refl (numbered_at test servers (k + 1) s) e
  where
    go : (b c : Bool) → test x ≡ b → eqb s k ≡ c
        → (list_any (λ u. eqb s u) (map (λ (n : ℕ × ServerView). n.0) (filter (λ (n : ℕ × ServerView). test n.1) (enumerate_from (k + 1) servers))) ≡ true
        → (i : ℕ) × (found : ServerView) × (s ≡ k + 1 + i) × (slice_get servers i ≡ Some found) × (test found ≡ true))
        → list_any (λ u. eqb s u) (map (λ (n : ℕ × ServerView). n.0) (cond b ((k, x) ∷ filter (λ (n : ℕ × ServerView). test n.1) (enumerate_from (k + 1) servers)) (filter (λ (n : ℕ × ServerView). test n.1) (enumerate_from (k + 1) servers)))) ≡ true
        → (i : ℕ) × (found : ServerView) × (s ≡ k + i) × (slice_get (x ∷ servers) i ≡ Some found) × (test found ≡ true)
    go true true passes same rest e = let here : s ≡ k = eqb-true s k same in (0, x, omega arith, refl, passes)
    go true false passes other rest e = later (rest (rw other at e))
      where
        later : ((i : ℕ) × (found : ServerView) × (s ≡ k + 1 + i) × (slice_get servers i ≡ Some found) × (test found ≡ true))
            → (i : ℕ) × (found : ServerView) × (s ≡ k + i) × (slice_get (x ∷ servers) i ≡ Some found) × (test found ≡ true)
        later w = let at : s ≡ k + 1 + w.0 = w.2 in (suc w.0, w.1, omega arith, w.3, w.4)
    go false c passes same rest e = later (rest e)
      where
        later : ((i : ℕ) × (found : ServerView) × (s ≡ k + 1 + i) × (slice_get servers i ≡ Some found) × (test found ≡ true))
            → (i : ℕ) × (found : ServerView) × (s ≡ k + i) × (slice_get (x ∷ servers) i ≡ Some found) × (test found ≡ true)
        later w = let at : s ≡ k + 1 + w.0 = w.2 in (suc w.0, w.1, omega arith, w.3, w.4)

any_first : (p : ℕ → Bool) (xs : List ℕ) → list_any p (take 1 xs) ≡ true → list_any p xs ≡ true
any_first p [] e = e
any_first p (x ∷ xs) e = go (p x) e
  where
    go : (b : Bool) → (b || false) ≡ true → (b || list_any p xs) ≡ true
    go true e = refl
    go false e = absurd (false≢true e)

-- a server of this number has a weight
weighted_at : (farm : FarmView) (test : ServerView → Bool) (s : ℕ) → ((v : ServerView) → test v ≡ true → 0 < v.weight)
    → list_any (λ u. eqb s u) (map (λ (n : ℕ × ServerView). n.0) (filter (λ (n : ℕ × ServerView). test n.1) (enumerate_from 0 farm.servers))) ≡ true
    → 0 < weight_of farm s
weighted_at farm test s weighted e =
    let w = numbered_at test farm.servers 0 s e in
    let at : s ≡ 0 + w.0 = w.2 in
    let here : s ≡ w.0 = omega arith in
    let read : slice_get farm.servers s ≡ Some w.1 = ap (slice_get farm.servers) here ∙ w.3 in
    rw read (weighted w.1 w.4)

pins_weigh : (v : ServerView) → takes_pins v ≡ true → 0 < v.weight
pins_weigh v e =
    ltb-true 0 v.weight (and_parts (serves v && is_ready v.admin) (ltb 0 v.weight) e).1

main_weighs : (v : ServerView) → is_main v ≡ true → 0 < v.weight
main_weighs v e = pins_weigh v (and_parts (not v.backup) (takes_pins v) e).1

spare_weighs : (v : ServerView) → is_spare v ≡ true → 0 < v.weight
spare_weighs v e = pins_weigh v (and_parts v.backup (takes_pins v) e).1

pub usable_weighs : (farm : FarmView) (s : ℕ) → has (usable farm) s ≡ true → 0 < weight_of farm s
usable_weighs farm s e = go (is_empty (main_servers farm.servers)) farm.all_backups (sym (has-usable farm s) ∙ e)
  where
    go : (b c : Bool)
        → list_any (λ u. eqb s u) (cond (not b) (main_servers farm.servers) (cond c (spare_servers farm.servers) (take 1 (spare_servers farm.servers)))) ≡ true
        → 0 < weight_of farm s
    go false c e = weighted_at farm is_main s main_weighs e
    go true true e = weighted_at farm is_spare s spare_weighs e
    go true false e = weighted_at farm is_spare s spare_weighs (any_first (λ u. eqb s u) (spare_servers farm.servers) e)
