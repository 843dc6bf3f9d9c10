-- The servers of a set, and those below a number.
use Rattle.std.proofs.Common.{add-one, min, ◌≡◌, ℕ, zero, suc, ◌+◌, ◌<◌, ◌≤◌, ◌⊎◌, inl, inr, ⊎_elim, Bool, true, false, cond, List, [], ◌∷◌, ◌++◌, length, nat_lt, ltb-true, ltb-false, refl, sym, ap, ◌∙◌, subst, arith}
use Rattle.std.specs.Prelude.{All}
use Rattle.std.proofs.lemmas.Bool.{false≢true}
use Rattle.std.proofs.lemmas.List.{length-append}
use Rattle.std.proofs.lemmas.List.Elements.{All-nil, All-cons, All-head, All-tail, All-push}
use Rattle.lb_types.specs.Servers.{has, members_below}

pub same_or_below : (a b : ℕ) → a < b + 1 → (a ≡ b) ⊎ (a < b)
same_or_below a b below = by (nat_lt a b) refl
  where
    by : (t : Bool) → nat_lt a b ≡ t → (a ≡ b) ⊎ (a < b)
    by true holds = inr (ltb-true a b holds)
    by false fails = let past = ltb-false a b fails in inl (omega (arith, below, past))

-- where the set has no server from `count` on, each of its servers is below that
pub all_below : (k count set : ℕ) → ((server : ℕ) → count ≤ server → server < k → has set server ≡ false)
    → All (λ server. server < count) (members_below k set)
unfolding members_below
all_below zero count set none = All-nil (λ (server : ℕ). server < count)
all_below (suc k) count set none =
    go (has set k) refl (all_below k count set (λ server from below. none server from (omega (arith, below))))
  where
    small : has set k ≡ true → k < count
    small there = by (nat_lt k count) refl
      where
        by : (t : Bool) → nat_lt k count ≡ t → k < count
        by true holds = ltb-true k count holds
        by false fails = absurd (false≢true (sym (none k (ltb-false k count fails) (omega arith)) ∙ there))

    go : (b : Bool) → has set k ≡ b → All (λ server. server < count) (members_below k set)
        → All (λ server. server < count) (members_below k set ++ cond b (k ∷ []) [])
    go true there all = All-push (λ (server : ℕ). server < count) (members_below k set) k all (small there)
    go false there all = All-both (λ (server : ℕ). server < count) (members_below k set) [] all (All-nil (λ (server : ℕ). server < count))
      where
        All-both : (P : ℕ → Type 0) (xs ys : List ℕ) → All P xs → All P ys → All P (xs ++ ys)
        All-both P [] ys a b = b
        All-both P (x ∷ xs) ys a b = All-cons P x (xs ++ ys) (All-head P x xs a) (All-both P xs ys (All-tail P x xs a) b)

-- what holds of all servers of the set holds of each
pub member_passes : (P : ℕ → Type 0) (k server set : ℕ) → All P (members_below k set) → server < k → has set server ≡ true → P server
unfolding members_below
member_passes P zero server set all below there = absurd (omega (arith, below))
member_passes P (suc k) server set all below there = ⊎_elim
    (λ same.
    let here : has set k ≡ true = ap (has set) (sym same) ∙ there in
    subst P (sym same) (last (members_below k set) k (subst (λ b. All P (members_below k set ++ cond b (k ∷ []) [])) here all)))
    (λ before. member_passes P k server set (front (members_below k set) (cond (has set k) (k ∷ []) []) all) before there)
    (same_or_below server k (omega (arith, below)))
  where
    front : (xs ys : List ℕ) → All P (xs ++ ys) → All P xs
    front [] ys all = All-nil P
    front (x ∷ xs) ys all = All-cons P x xs (All-head P x (xs ++ ys) all) (front xs ys (All-tail P x (xs ++ ys) all))

    last : (xs : List ℕ) (x : ℕ) → All P (xs ++ x ∷ []) → P x
    last [] x all = All-head P x [] all
    last (y ∷ xs) x all = last xs x (All-tail P y (xs ++ x ∷ []) all)

length-one : (b : Bool) (k : ℕ) → length (cond b (k ∷ []) []) ≡ cond b 1 0
length-one true k = refl
length-one false k = refl

-- one server more to look at
counted_next : (k set : ℕ) → length (members_below (suc k) set) ≡ length (members_below k set) + cond (has set k) 1 0
unfolding members_below
counted_next k set =
    length-append (members_below k set) (cond (has set k) (k ∷ []) []) ∙ ap (λ n. length (members_below k set) + n) (length-one (has set k) k)

counted_by : (k set : ℕ) (b : Bool) → has set k ≡ b → length (members_below (k + 1) set) ≡ length (members_below k set) + cond b 1 0
counted_by k set b is =
    ap (λ n. length (members_below n set)) (add-one k) ∙ (counted_next k set ∙ ap (λ t. length (members_below k set) + cond t 1 0) is)

pub counted_in : (k set : ℕ) → has set k ≡ true → length (members_below (k + 1) set) ≡ length (members_below k set) + 1
counted_in k set there = counted_by k set true there

pub counted_out : (k set : ℕ) → has set k ≡ false → length (members_below (k + 1) set) ≡ length (members_below k set)
counted_out k set none = omega (arith, counted_by k set false none)

pub none_counted : (set : ℕ) → 0 ≡ length (members_below 0 set)
unfolding members_below
none_counted set = refl

counted_more : (k count set : ℕ) → count ≤ k → length (members_below count set) ≤ length (members_below k set)
counted_more zero count set most =
    let none : count ≡ 0 = omega (arith, most) in
    omega (arith, ap (λ n. length (members_below n set)) none)
counted_more (suc k) count set most = ⊎_elim
    (λ same. omega (arith, ap (λ n. length (members_below n set)) same))
    (λ before. omega (arith, counted_next k set, counted_more k count set (omega (arith, before))))
    (same_or_below count (suc k) (omega (arith, most)))

-- a set of as many servers below `k` as below `count` has none between
pub none_between : (k count set : ℕ) → length (members_below k set) ≡ length (members_below count set)
    → (server : ℕ) → count ≤ server → server < k → has set server ≡ false
none_between zero count set same server from below = absurd (omega (arith, below))
none_between (suc k) count set same server from below =
    by (has set k) refl (λ before earlier. none_between k count set before server from earlier)
  where
    by : (b : Bool) → has set k ≡ b
        → (length (members_below k set) ≡ length (members_below count set) → server < k → has set server ≡ false) → has set server ≡ false
    by true there earlier =
        let grown = counted_next k set ∙ ap (λ t. length (members_below k set) + cond t 1 0) there in
        let more = counted_more k count set (omega (arith, from, below)) in
        absurd (omega (arith, same, more, grown))
    by false none earlier =
        let grown = counted_next k set ∙ ap (λ t. length (members_below k set) + cond t 1 0) none in
        let before : length (members_below k set) ≡ length (members_below count set) = omega (arith, same, grown) in
        ⊎_elim
        (λ here. ap (has set) here ∙ none)
        (λ less. earlier before less)
        (same_or_below server k (omega (arith, below)))

-- and the other way round
pub as_many : (k count set : ℕ) → count ≤ k → ((server : ℕ) → count ≤ server → server < k → has set server ≡ false)
    → length (members_below k set) ≡ length (members_below count set)
as_many zero count set most none =
    let same : count ≡ 0 = omega (arith, most) in
    sym (ap (λ n. length (members_below n set)) same)
as_many (suc k) count set most none = ⊎_elim
    (λ same. sym (ap (λ n. length (members_below n set)) same))
    (λ before.
    let here = none k (omega (arith, before)) (omega arith) in
    let grown = counted_next k set ∙ ap (λ t. length (members_below k set) + cond t 1 0) here in
    omega (arith, grown, as_many k count set (omega (arith, before)) (λ server from below. none server from (omega (arith, below)))))
    (same_or_below count (suc k) (omega (arith, most)))

-- a set has as many servers in all as below `count` where all are below that, and only there
pub all_counted : (count set : ℕ) → length (members_below (min count 128) set) ≡ length (members_below 128 set)
    → All (λ server. server < count) (members_below 128 set)
all_counted count set same = all_below 128 count set (λ server from below.
    none_between 128 (min count 128) set (sym same) server (omega (arith, from)) below)

pub counted_all : (count set : ℕ) → All (λ server. server < count) (members_below 128 set)
    → length (members_below (min count 128) set) ≡ length (members_below 128 set)
counted_all count set all = sym (as_many 128 (min count 128) set (omega arith) outside)
  where
    outside : (server : ℕ) → min count 128 ≤ server → server < 128 → has set server ≡ false
    outside server from below = by (has set server) refl
      where
        by : (b : Bool) → has set server ≡ b → has set server ≡ false
        by true there = absurd (omega (arith, from, below, member_passes (λ (server : ℕ). server < count) 128 server set all below there))
        by false none = none
