-- What each walk comes to, at servers that are seen so.
use Rattle.std.proofs.Common.{◌≡◌, ℕ, ◌+◌, ◌-◌, ◌<◌, Bool, true, ◌&&◌, Option, Some, None, List, ◌++◌, length, map, min, refl, sym, ap, ◌∙◌, arith}
use Rattle.std.specs.Prelude.{filter, fold}
use Rattle.std.specs.List.{find, range_with_len}
use Rattle.std.specs.Option.{option_map, option_or}
use Rattle.std.proofs.lemmas.List.Elements.{filter-append}
use Rattle.std.proofs.lemmas.List.Sums.{fold-append}
use Rattle.lb_types.specs.Servers.{has}
use Rattle.server_state.specs.Farm.{FarmView, weight_of}
use Rattle.capacity_book.specs.Book.{BookView}
use Rattle.lb_desk_model.specs.declared.stand.Stand.{Stand}
use Rattle.lb_desk_model.specs.Picks.{stands, is_behind, is_server_behind, round_from, next_stand, least_loaded, first_free, weight_at}
use Rattle.lb_desk_model.specs.Picks.{is_as_free as is_as_free_at}
use Rattle.lb_desk_model.specs.States.{ServerState, seen_server}
use Rattle.lb_desk_pick.specs.Sights.{AreSeen}
use Rattle.lb_desk_pick.specs.Walks.{HaveWeights, is_as_free, has_connection, freer, first_behind}
use Rattle.lb_desk_pick.proofs.Lists.{round_find}
use Rattle.lb_desk_pick.proofs.Ranges.{find_behind, round_of_numbers}
use Rattle.lb_desk_pick.proofs.Freest.{walk_round, freedom_order}
use Rattle.lb_desk_pick.proofs.Rounds.{first_turn, next_turn, candidate_behind, first_stands, stands_behind}
use Rattle.lb_desk_pick.proofs.Sights.{length_seen, weight_seen, free_seen, room_seen}

abbrev pub AreShown : FarmView → List ServerState → Type 0
AreShown farm servers = map seen_server servers ≡ farm.servers

-- candidates have weights also where they are seen
weights_shown : (farm : FarmView) (servers : List ServerState) → AreShown farm servers → (set : ℕ) → HaveWeights farm set
    → (s : ℕ) → has set s ≡ true → 0 < weight_at servers s
weights_shown farm servers shown set weighted s is =
    let same = weight_seen farm servers shown s in
    let some = weighted s is in
    omega (arith, same, some)

numbered : (farm : FarmView) (servers : List ServerState) → AreShown farm servers → (set : ℕ) → HaveWeights farm set
    → (i : ℕ) → has set (0 + i) ≡ true → 0 < weight_at servers i
numbered farm servers shown set weighted i is =
    let here : 0 + i ≡ i = omega arith in
    weights_shown farm servers shown set weighted i (ap (has set) (sym here) ∙ is)

-- ---- the round

-- of the whole round
pub turns_first : (farm : FarmView) (servers : List ServerState) → AreShown farm servers → (set : ℕ) → HaveWeights farm set
    → (len : ℕ) → len ≡ length farm.servers → (result : Option Stand)
    → result ≡ option_map first_turn (find (has set) (range_with_len 0 (len - 0)))
    → result ≡ find (λ s. has set s.server) (stands servers)
turns_first farm servers shown set weighted len many result is =
    let count : len - 0 ≡ length servers = omega (arith, many, length_seen farm servers shown) in
    is
    ∙ (ap (λ (n : ℕ). option_map first_turn (find (has set) (range_with_len 0 n))) count
    ∙ sym (first_stands (λ (s : Stand). has set s.server) (has set) 0 servers (λ i j. refl) (numbered farm servers shown set weighted)))

-- behind a stand
turns_behind : (farm : FarmView) (servers : List ServerState) → AreShown farm servers → (set : ℕ) → HaveWeights farm set → (last : Stand)
    → find (candidate_behind last (has set)) (stands servers)
    ≡ option_or (next_turn last (has set) (weight_of farm last.server)) (option_map first_turn (find (has set) (range_with_len (last.server + 1) (length farm.servers - (last.server + 1)))))
turns_behind farm servers shown set weighted last =
    stands_behind last (has set) last.server 0 servers (omega arith) (numbered farm servers shown set weighted)
    ∙ (ap (λ (w : ℕ). option_or (next_turn last (has set) w) (option_map first_turn (find (has set) (range_with_len (last.server + 1) (length servers - (last.server + 1)))))) (weight_seen farm servers shown last.server)
    ∙ ap (λ (n : ℕ). option_or (next_turn last (has set) (weight_of farm last.server)) (option_map first_turn (find (has set) (range_with_len (last.server + 1) (n - (last.server + 1)))))) (length_seen farm servers shown))

-- its own server's next turn
pub behind_own : (farm : FarmView) (servers : List ServerState) → AreShown farm servers → (set : ℕ) → HaveWeights farm set → (last found : Stand)
    → Some found ≡ next_turn last (has set) (weight_of farm last.server)
    → Some found ≡ find (candidate_behind last (has set)) (stands servers)
behind_own farm servers shown set weighted last found is =
    let others = option_map first_turn (find (has set) (range_with_len (last.server + 1) (length farm.servers - (last.server + 1)))) in
    ap (λ (o : Option Stand). option_or o others) is ∙ sym (turns_behind farm servers shown set weighted last)

-- a later server's first turn
pub behind_others : (farm : FarmView) (servers : List ServerState) → AreShown farm servers → (set : ℕ) → HaveWeights farm set → (last : Stand)
    → None ≡ next_turn last (has set) (weight_of farm last.server)
    → (from len : ℕ) → from ≡ min (last.server + 1) len → len ≡ length farm.servers → (result : Option Stand)
    → result ≡ option_map first_turn (find (has set) (range_with_len from (len - from)))
    → result ≡ find (candidate_behind last (has set)) (stands servers)
behind_others farm servers shown set weighted last none from len at many result is =
    let others : ℕ → Option Stand = λ n. option_map first_turn (find (has set) (range_with_len (last.server + 1) (n - (last.server + 1)))) in
    is
    ∙ (ap (λ (k : ℕ). option_map first_turn (find (has set) (range_with_len k (len - k)))) at
    ∙ (ap (option_map first_turn) (find_behind (has set) last.server len)
    ∙ (ap others many
    ∙ (ap (λ (o : Option Stand). option_or o (others (length farm.servers))) none
    ∙ sym (turns_behind farm servers shown set weighted last)))))

itself : {X : Type 0} (o : Option X) → option_or o o ≡ o
itself None = refl
itself (Some x) = refl

pub round_begun : (servers : List ServerState) (set : ℕ) (result : Option Stand) → result ≡ find (λ s. has set s.server) (stands servers)
    → result ≡ next_stand (has set) servers None
round_begun servers set result is =
    let p : Stand → Bool = λ s. has set s.server in
    is ∙ (sym (itself (find p (stands servers))) ∙ sym (round_find (is_behind None) p (stands servers) (find p (stands servers)) refl))

pub round_on : (servers : List ServerState) (set : ℕ) (last found : Stand) → Some found ≡ find (candidate_behind last (has set)) (stands servers)
    → Some found ≡ next_stand (has set) servers (Some last)
round_on servers set last found is =
    sym (round_find (is_behind (Some last)) (λ (s : Stand). has set s.server) (stands servers) (Some found) is)

pub round_again : (servers : List ServerState) (set : ℕ) (last : Stand) (result : Option Stand) → None ≡ find (candidate_behind last (has set)) (stands servers)
    → result ≡ find (λ s. has set s.server) (stands servers) → result ≡ next_stand (has set) servers (Some last)
round_again servers set last result none is =
    is ∙ sym (round_find (is_behind (Some last)) (λ (s : Stand). has set s.server) (stands servers) None none)

-- ---- the least loaded

pub least_walked : (farm : FarmView) (book : BookView) (servers : List ServerState) → AreSeen farm book servers → (set : ℕ) → HaveWeights farm set
    → (cursor : Option Stand) (start len : ℕ) (found result : Option ℕ) → start ≡ first_behind cursor len → len ≡ length farm.servers
    → found ≡ fold (freer (is_as_free farm book)) None (filter (has set) (range_with_len start (len - start)))
    → result ≡ fold (freer (is_as_free farm book)) found (filter (has set) (range_with_len 0 (start - 0)))
    → result ≡ least_loaded (has set) servers cursor
least_walked farm book servers seen set weighted cursor start len found result from many first second =
    let step = freer (is_as_free farm book) in
    let good = has set in
    let count : len ≡ length servers = omega (arith, many, length_seen farm servers seen.settings) in
    let whole : start - 0 ≡ start = omega arith in
    let later = range_with_len start (len - start) in
    let earlier = range_with_len 0 start in
    second
    ∙ (ap (λ (k : ℕ). fold step found (filter good (range_with_len 0 k))) whole
    ∙ (ap (λ (o : Option ℕ). fold step o (filter good earlier)) first
    ∙ (sym (fold-append step None (filter good later) (filter good earlier))
    ∙ (ap (fold step None) (sym (filter-append good later earlier))
    ∙ (ap (λ (k : ℕ). fold step None (filter good (range_with_len k (len - k) ++ range_with_len 0 k))) from
    ∙ (ap (λ (xs : List ℕ). fold step None (filter good xs)) (sym (round_of_numbers cursor len))
    ∙ (ap (λ (n : ℕ). fold step None (filter good (round_from (is_server_behind cursor) (range_with_len 0 n)))) count
    ∙ (ap (λ (le : ℕ → ℕ → Bool). fold (freer le) None (filter good (round_from (is_server_behind cursor) (range_with_len 0 (length servers))))) (sym (free_seen farm book servers seen))
    ∙ walk_round good (is_server_behind cursor) (is_as_free_at servers)
    (freedom_order servers good (weights_shown farm servers seen.settings set weighted)) (range_with_len 0 (length servers))))))))))

-- ---- the first one

pub free_walked : (farm : FarmView) (book : BookView) (servers : List ServerState) → AreSeen farm book servers → (set : ℕ)
    → (found result : Option ℕ) → found ≡ find (λ s. has set s && has_connection farm book s) (range_with_len 0 (length farm.servers))
    → result ≡ option_or found (find (has set) (range_with_len 0 (length farm.servers)))
    → result ≡ first_free (has set) servers
free_walked farm book servers seen set found result first is =
    let count = length_seen farm servers seen.settings in
    is
    ∙ (ap (λ (o : Option ℕ). option_or o (find (has set) (range_with_len 0 (length farm.servers)))) first
    ∙ (ap (λ (n : ℕ). option_or (find (λ s. has set s && has_connection farm book s) (range_with_len 0 n)) (find (has set) (range_with_len 0 n))) (sym count)
    ∙ ap (λ (room : ℕ → Bool). option_or (find (λ s. has set s && room s) (range_with_len 0 (length servers))) (find (has set) (range_with_len 0 (length servers)))) (sym (room_seen farm book servers seen))))
