-- The usable servers, and the walk that finds them.
use Rattle.std.proofs.Common.{◌≡◌, ◌≢◌, ℕ, ◌+◌, ◌<◌, Bool, true, false, ◌&&◌, ◌||◌, cond, eqb, eq-eqb, List, [], ◌∷◌, ◌++◌, length, take, get_or, refl, sym, ap, ◌∙◌, arith}
use Rattle.std.specs.Prelude.{map, filter, fold}
use Rattle.std.specs.List.{enumerate_from, list_any}
use Rattle.std.proofs.Math.Bool.{and-true, or-false}
use Rattle.std.proofs.lemmas.Bool.{false≢true, false_from_ne_true, ne_eqb}
use Rattle.std.proofs.lemmas.List.{append-nil, map-append, take_more, length-take-le}
use Rattle.std.proofs.lemmas.List.Sums.{fold_push}
use Rattle.std.proofs.lemmas.List.Elements.{filter-append}
use Rattle.lb_types.specs.Servers.{has, with_server}
use Rattle.lb_types.proofs.Sets.{has-empty, has-with}
use Rattle.server_state.specs.Server.{ServerView, is_main, is_spare}
use Rattle.server_state.specs.Farm.{numbers_where, main_servers, spare_servers, is_empty, set_of, usable, usable_servers, FarmView}

-- the backups that are usable where no other server is
abbrev pub spare_among : Bool → List ServerView → List ℕ
spare_among all_backups servers = cond all_backups (spare_servers servers) (take 1 (spare_servers servers))

enumerate_from-push : (n : ℕ) (xs : List ServerView) (x : ServerView) → enumerate_from n (xs ++ x ∷ []) ≡ enumerate_from n xs ++ (n + length xs, x) ∷ []
enumerate_from-push n [] x = ap (λ (k : ℕ). (k, x) ∷ []) (omega arith)
enumerate_from-push n (y ∷ xs) x =
    ap (λ ps. (n, y) ∷ ps) (enumerate_from-push (n + 1) xs x ∙ ap (λ (k : ℕ). enumerate_from (n + 1) xs ++ (k, x) ∷ []) (omega arith))

number_if : (test : ServerView → Bool) (b : Bool) (i : ℕ) (x : ServerView) → test x ≡ b → map (λ (p : ℕ × ServerView). p.0) (filter (λ (p : ℕ × ServerView). test p.1) ((i, x) ∷ [])) ≡ cond b (i ∷ []) []
number_if test true i x e = rw e refl
number_if test false i x e = rw e refl

numbers_where-push : (test : ServerView → Bool) (xs : List ServerView) (x : ServerView) → numbers_where test (xs ++ x ∷ []) ≡ numbers_where test xs ++ cond (test x) (length xs ∷ []) []
numbers_where-push test xs x =
    let p : ℕ × ServerView → Bool = λ q. test q.1 in
    let first : ℕ × ServerView → ℕ = λ q. q.0 in
    let i : ℕ = 0 + length xs in
    ap (λ qs. map first (filter p qs)) (enumerate_from-push 0 xs x)
    ∙ (ap (map first) (filter-append p (enumerate_from 0 xs) ((i, x) ∷ []))
    ∙ (map-append first (filter p (enumerate_from 0 xs)) (filter p ((i, x) ∷ []))
    ∙ (ap (λ ns. numbers_where test xs ++ ns) (number_if test (test x) i x refl)
    ∙ ap (λ (k : ℕ). numbers_where test xs ++ cond (test x) (k ∷ []) []) (omega arith))))

set_of-push : (ss : List ℕ) (s : ℕ) → set_of (ss ++ s ∷ []) ≡ with_server (set_of ss) s
set_of-push ss s = fold_push with_server 0 ss s

set_of-push_if : (b : Bool) (ss : List ℕ) (s : ℕ) → set_of (ss ++ cond b (s ∷ []) []) ≡ cond b (with_server (set_of ss) s) (set_of ss)
set_of-push_if true ss s = set_of-push ss s
set_of-push_if false ss s = ap set_of (append-nil ss)

with_server-nonzero : (set s : ℕ) → with_server set s ≢ 0
with_server-nonzero set s none =
    false≢true (sym (has-empty s) ∙ (ap (λ n. has n s) (sym none) ∙ (has-with set s s ∙ rw (eq-eqb s s refl) refl)))

fold-nonzero : (ss : List ℕ) (set : ℕ) → set ≢ 0 → fold with_server set ss ≢ 0
fold-nonzero [] set some = some
fold-nonzero (s ∷ ss) set some = fold-nonzero ss (with_server set s) (with_server-nonzero set s)

-- a list of servers with an empty set is empty
pub is_empty-set_of : (ss : List ℕ) → set_of ss ≡ 0 → is_empty ss ≡ true
is_empty-set_of [] none = refl
is_empty-set_of (s ∷ ss) none = absurd (fold-nonzero ss (with_server 0 s) (with_server-nonzero 0 s) none)

pub set_of-is_empty : (ss : List ℕ) → is_empty ss ≡ true → set_of ss ≡ 0
set_of-is_empty [] none = refl
set_of-is_empty (s ∷ ss) none = absurd (false≢true none)

-- the walk, one server further
numbers_where-more : (test : ServerView → Bool) (xs : List ServerView) (i : ℕ) (d : ServerView) → i < length xs → numbers_where test (take (i + 1) xs) ≡ numbers_where test (take i xs) ++ cond (test (get_or xs i d)) (i ∷ []) []
numbers_where-more test xs i d h =
    ap (numbers_where test) (take_more xs i d h) ∙ (numbers_where-push test (take i xs) (get_or xs i d) ∙ rw (length-take-le i xs (omega arith)) refl)

pub main-more : (xs : List ServerView) (i : ℕ) (d : ServerView) → i < length xs → set_of (main_servers (take (i + 1) xs)) ≡ cond (is_main (get_or xs i d)) (with_server (set_of (main_servers (take i xs))) i) (set_of (main_servers (take i xs)))
main-more xs i d h = ap set_of (numbers_where-more is_main xs i d h) ∙ set_of-push_if (is_main (get_or xs i d)) (main_servers (take i xs)) i

-- the first of a list with one server more
set_of-first : (b : Bool) (ss : List ℕ) (s : ℕ) → set_of (take 1 (ss ++ cond b (s ∷ []) [])) ≡ cond (b && eqb (set_of (take 1 ss)) 0) (with_server (set_of (take 1 ss)) s) (set_of (take 1 ss))
set_of-first true [] s = refl
set_of-first false ss s = ap (λ l. set_of (take 1 l)) (append-nil ss)
set_of-first true (t ∷ ss) s = rw (ne_eqb (with_server 0 t) 0 (with_server-nonzero 0 t)) refl

pub spare-more : (all_backups : Bool) (xs : List ServerView) (i : ℕ) (d : ServerView) → i < length xs → set_of (spare_among all_backups (take (i + 1) xs)) ≡ cond (is_spare (get_or xs i d) && (all_backups || eqb (set_of (spare_among all_backups (take i xs))) 0)) (with_server (set_of (spare_among all_backups (take i xs))) i) (set_of (spare_among all_backups (take i xs)))
spare-more true xs i d h = rw and-true (ap set_of (numbers_where-more is_spare xs i d h) ∙ set_of-push_if (is_spare (get_or xs i d)) (spare_servers (take i xs)) i)
spare-more false xs i d h = ap (λ l. set_of (take 1 l)) (numbers_where-more is_spare xs i d h) ∙ set_of-first (is_spare (get_or xs i d)) (spare_servers (take i xs)) i

pub main-step : (xs : List ServerView) (i : ℕ) (x : ServerView) (id found now : ℕ) → i < length xs → x ≡ get_or xs i x → id ≡ i → found ≡ set_of (main_servers (take i xs)) → now ≡ cond (is_main x) (with_server found id) found → now ≡ set_of (main_servers (take (i + 1) xs))
main-step xs i x id found now h read same_id same_found added =
    let set = set_of (main_servers (take i xs)) in
    added
    ∙ (ap (λ k. cond (is_main x) (with_server found k) found) same_id
    ∙ (ap (λ f. cond (is_main x) (with_server f i) f) same_found
    ∙ (ap (λ (y : ServerView). cond (is_main y) (with_server set i) set) read
    ∙ sym (main-more xs i x h))))

pub spare-step : (all_backups : Bool) (xs : List ServerView) (i : ℕ) (x : ServerView) (id found now : ℕ) → i < length xs → x ≡ get_or xs i x → id ≡ i → found ≡ set_of (spare_among all_backups (take i xs)) → now ≡ cond (is_spare x && (all_backups || eqb found 0)) (with_server found id) found → now ≡ set_of (spare_among all_backups (take (i + 1) xs))
spare-step all_backups xs i x id found now h read same_id same_found added =
    let set = set_of (spare_among all_backups (take i xs)) in
    added
    ∙ (ap (λ k. cond (is_spare x && (all_backups || eqb found 0)) (with_server found k) found) same_id
    ∙ (ap (λ f. cond (is_spare x && (all_backups || eqb f 0)) (with_server f i) f) same_found
    ∙ (ap (λ (y : ServerView). cond (is_spare y && (all_backups || eqb set 0)) (with_server set i) set) read
    ∙ sym (spare-more all_backups xs i x h))))

-- the set that the walk ends with
pub usable-main : (all_backups : Bool) (xs : List ServerView) (found : ℕ) → found ≡ set_of (main_servers xs) → found ≢ 0 → found ≡ usable (record { servers = xs; all_backups = all_backups })
unfolding usable
usable-main all_backups xs found same some =
    let full : is_empty (main_servers xs) ≡ false = false_from_ne_true _ (λ none. some (same ∙ set_of-is_empty (main_servers xs) none)) in
    same ∙ rw full refl

pub usable-spare : (all_backups : Bool) (xs : List ServerView) (main found : ℕ) → main ≡ set_of (main_servers xs) → main ≡ 0 → found ≡ set_of (spare_among all_backups xs) → found ≡ usable (record { servers = xs; all_backups = all_backups })
unfolding usable
usable-spare all_backups xs main found same none same_found =
    let empty : is_empty (main_servers xs) ≡ true = is_empty-set_of (main_servers xs) (sym same ∙ none) in
    same_found ∙ rw empty refl

or-swap : (a b c : Bool) → (b || (a || c)) ≡ ((a || b) || c)
or-swap true true c = refl
or-swap true false c = refl
or-swap false true c = refl
or-swap false false c = refl

has-fold : (ss : List ℕ) (set s : ℕ) → has (fold with_server set ss) s ≡ (list_any (λ u. eqb s u) ss || has set s)
has-fold [] set s = refl
has-fold (t ∷ ss) set s =
    has-fold ss (with_server set t) s
    ∙ (ap (λ h. list_any (λ u. eqb s u) ss || h) (has-with set t s) ∙ or-swap (eqb s t) (list_any (λ u. eqb s u) ss) (has set s))

-- the set of a list holds the servers in it
pub has-set_of : (ss : List ℕ) (s : ℕ) → has (set_of ss) s ≡ list_any (λ u. eqb s u) ss
has-set_of ss s = has-fold ss 0 s ∙ (ap (λ h. list_any (λ u. eqb s u) ss || h) (has-empty s) ∙ or-false (list_any (λ u. eqb s u) ss))

pub has-usable : (farm : FarmView) (s : ℕ) → has (usable farm) s ≡ list_any (λ u. eqb s u) (usable_servers farm)
unfolding usable
has-usable farm s = has-set_of (usable_servers farm) s
