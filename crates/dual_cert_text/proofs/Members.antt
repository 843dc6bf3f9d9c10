-- The servers of a set, one after another, and the set that they make.
use Rattle.std.proofs.Common.{◌≡◌, ◌≢◌, ℕ, zero, suc, ◌+◌, ◌<◌, ◌≤◌, Bool, true, false, ◌||◌, eqb, leb, ltb, cond, inl, inr, List, [], ◌∷◌, ◌++◌, refl, sym, ap, subst, ◌∙◌, arith}
use Rattle.std.specs.List.{list_any, list_all, fold}
use Rattle.std.proofs.lemmas.Bool.{cases_eq, cases_lt, eqb-true}
use Rattle.std.proofs.lemmas.Bool.Decides.{nat_tests}
use Rattle.lb_types.specs.Servers.{has, with_server, members_below, members}
use Rattle.lb_types.proofs.Sets.{has-empty, has-with, same_sets}
use Rattle.dual_cert_text.proofs.Steps.{and_true}
use Rattle.dual_cert_text.specs.RowLines.{are_rising, set_with}

-- the set's servers among `count` ones from a number on
unfoldable pub members_from : ℕ → ℕ → ℕ → List ℕ
members_from from zero set = []
members_from from (suc count) set = cond (has set from) (from ∷ members_from (from + 1) count set) (members_from (from + 1) count set)

cond_push : (b : Bool) (x : ℕ) (xs ys : List ℕ) → cond b (x ∷ (xs ++ ys)) (xs ++ ys) ≡ cond b (x ∷ xs) xs ++ ys
cond_push true x xs ys = refl
cond_push false x xs ys = refl

-- one server more at the end
members_from_last : (count from set : ℕ) → members_from from (suc count) set ≡ members_from from count set ++ cond (has set (from + count)) ((from + count) ∷ []) []
unfolding members_from
members_from_last zero from set = let same : from + 0 ≡ from = omega arith in rw same refl
members_from_last (suc count) from set =
    let same : (from + 1) + count ≡ from + suc count = omega arith in
    let last = rw same at (members_from_last count (from + 1) set) in
    ap (λ t. cond (has set from) (from ∷ t) t) last ∙ cond_push (has set from) from (members_from (from + 1) count set) _

none_from : (from set : ℕ) → [] ≡ members_from from 0 set
unfolding members_from
none_from from set = refl

members_is : (k set : ℕ) → members_below k set ≡ members_from 0 k set
unfolding members_below
members_is zero set = none_from 0 set
members_is (suc k) set =
    let same : 0 + k ≡ k = omega arith in
    let last = rw same at (members_from_last k 0 set) in
    ap (λ t. t ++ cond (has set k) (k ∷ []) []) (members_is k set) ∙ sym last

-- a number is one of these
abbrev pub is_among : ℕ → List ℕ → Bool
is_among s servers = list_any (λ i. eqb s i) servers

or_false : (b : Bool) → b ≡ (b || false)
or_false true = refl
or_false false = refl

or_swap : (a b c : Bool) → ((a || b) || c) ≡ (b || (a || c))
or_swap true true c = refl
or_swap true false c = refl
or_swap false b c = refl

has-fold : (servers : List ℕ) (set s : ℕ) → has (fold with_server set servers) s ≡ (has set s || is_among s servers)
has-fold [] set s = or_false (has set s)
has-fold (server ∷ servers) set s =
    has-fold servers (with_server set server) s ∙ ap (λ b. b || is_among s servers) (has-with set server s) ∙ or_swap (eqb s server) (has set s) (is_among s servers)

-- the set of some servers holds these alone
pub has-set_with : (servers : List ℕ) (s : ℕ) → has (set_with servers) s ≡ is_among s servers
has-set_with servers s = has-fold servers 0 s ∙ ap (λ b. b || is_among s servers) (has-empty s)

-- numbers that rise from a number on are not below it
below_rising : (from s : ℕ) (servers : List ℕ) → are_rising from servers ≡ true → s < from → is_among s servers ≡ false
below_rising from s [] rising below = refl
below_rising from s (server ∷ servers) rising below =
    let parts = and_true (leb from server) _ rising in
    let at : from ≤ server = (let h = parts.0 in grind (arith, nat_tests)) in
    let other : eqb s server ≡ false = grind (arith, nat_tests) in
    rw (other, below_rising (server + 1) s servers parts.1 (omega arith)) refl

-- all numbers are below a bound
abbrev pub are_below : ℕ → List ℕ → Bool
are_below bound servers = list_all (λ i. ltb i bound) servers

-- the members of a set that holds rising servers, and no other from a number on, are these
members_of_rising : (count from set : ℕ) (servers : List ℕ) → are_rising from servers ≡ true → are_below (from + count) servers ≡ true → ((s : ℕ) → from ≤ s → has set s ≡ is_among s servers) → members_from from count set ≡ servers
unfolding members_from
members_of_rising zero from set [] rising below same = refl
members_of_rising zero from set (server ∷ servers) rising below same =
    let low = (and_true (leb from server) _ rising).0 in
    let high = (and_true (ltb server (from + 0)) _ below).0 in
    absurd (let a : from ≤ server = grind (arith, nat_tests) in let b : server < from = grind (arith, nat_tests) in omega arith)
members_of_rising (suc count) from set [] rising below same =
    rw (same from (omega arith)) (members_of_rising count (from + 1) set [] refl refl (λ s at. same s (omega arith)))
members_of_rising (suc count) from set (server ∷ servers) rising below same =
    let up = and_true (leb from server) _ rising in
    let under = and_true (ltb server (from + suc count)) _ below in
    let at : from ≤ server = (let h = up.0 in grind (arith, nat_tests)) in
    let bound : from + suc count ≡ (from + 1) + count = omega arith in
    elim (cases_eq from server) [
      | inl equal ↦
          let held : has set from ≡ true = same from (omega arith) ∙ (let e : eqb from server ≡ true = grind (arith, nat_tests) in rw e refl) in
          let rest = members_of_rising count (from + 1) set servers (let F : ℕ → Type 0 = λ k. are_rising (k + 1) servers ≡ true in subst F (sym equal) up.1) (let G : ℕ → Type 0 = λ k. are_below k servers ≡ true in subst G bound under.1) (λ s above. same s (omega arith) ∙ (let e : eqb s server ≡ false = grind (arith, nat_tests) in rw e refl)) in
          rw (held, rest, equal) refl
      | inr other ↦
          let above : from < server = omega arith in
          let exact : leb server server ≡ true = grind (arith, nat_tests) in
          let higher : leb (from + 1) server ≡ true = grind (arith, nat_tests) in
          let none : has set from ≡ false = same from (omega arith) ∙ below_rising server from (server ∷ servers) (rw (exact, up.1) refl) above in
          let rest = members_of_rising count (from + 1) set (server ∷ servers) (rw (higher, up.1) refl) (let G : ℕ → Type 0 = λ k. are_below k (server ∷ servers) ≡ true in subst G bound below) (λ s at'. same s (omega arith)) in
          rw (none, rest) refl
    ]

members_all : (set : ℕ) → members set ≡ members_from 0 128 set
unfolding members
members_all set = members_is 128 set

-- rising servers below 128 are the members of their set
pub members-set_with : (servers : List ℕ) → are_rising 0 servers ≡ true → are_below 128 servers ≡ true → members (set_with servers) ≡ servers
members-set_with servers rising below =
    members_all (set_with servers) ∙ members_of_rising 128 0 (set_with servers) servers rising below (λ s at. has-set_with servers s)

rising_cond : (b : Bool) (low from : ℕ) (servers : List ℕ) → low ≤ from → are_rising (from + 1) servers ≡ true → are_rising low servers ≡ true → are_rising low (cond b (from ∷ servers) servers) ≡ true
rising_cond true low from servers at above whole = let e : leb low from ≡ true = grind (arith, nat_tests) in rw (e, above) refl
rising_cond false low from servers at above whole = whole

-- members stand in rising order
rising_members : (count low from set : ℕ) → low ≤ from → are_rising low (members_from from count set) ≡ true
unfolding members_from
rising_members zero low from set at = refl
rising_members (suc count) low from set at =
    rising_cond (has set from) low from (members_from (from + 1) count set) at (rising_members count (from + 1) (from + 1) set (omega arith)) (rising_members count low (from + 1) set (omega arith))

below_cond : (b : Bool) (bound from : ℕ) (servers : List ℕ) → from < bound → are_below bound servers ≡ true → are_below bound (cond b (from ∷ servers) servers) ≡ true
below_cond true bound from servers at whole = let e : ltb from bound ≡ true = grind (arith, nat_tests) in rw (e, whole) refl
below_cond false bound from servers at whole = whole

below_members : (count bound from set : ℕ) → from + count ≤ bound → are_below bound (members_from from count set) ≡ true
unfolding members_from
below_members zero bound from set at = refl
below_members (suc count) bound from set at =
    below_cond (has set from) bound from (members_from (from + 1) count set) (omega arith) (below_members count bound (from + 1) set (omega arith))

pub rising-members : (set : ℕ) → are_rising 0 (members set) ≡ true
rising-members set = rw members_all (rising_members 128 0 0 set (omega arith))

pub below-members : (set : ℕ) → are_below 128 (members set) ≡ true
below-members set = rw members_all (below_members 128 128 0 set (omega arith))

-- a number that is not below the bound of all numbers is none of them
among_past : (bound s : ℕ) (servers : List ℕ) → are_below bound servers ≡ true → bound ≤ s → is_among s servers ≡ false
among_past bound s [] below past = refl
among_past bound s (server ∷ servers) below past =
    let parts = and_true (ltb server bound) _ below in
    let at : server < bound = (let h = parts.0 in grind (arith, nat_tests)) in
    let other : eqb s server ≡ false = grind (arith, nat_tests) in
    rw (other, among_past bound s servers parts.1 past) refl

among_cond : (b : Bool) (s from : ℕ) (servers : List ℕ) → s ≢ from → is_among s (cond b (from ∷ servers) servers) ≡ is_among s servers
among_cond true s from servers differs = let other : eqb s from ≡ false = grind (arith, nat_tests) in rw other refl
among_cond false s from servers differs = refl

among_here : (b : Bool) (from : ℕ) (servers : List ℕ) → is_among from servers ≡ false → is_among from (cond b (from ∷ servers) servers) ≡ b
among_here true from servers none = let equal : eqb from from ≡ true = grind (arith, nat_tests) in rw equal refl
among_here false from servers none = none

-- the members between two numbers are those that the set holds
among_members : (count from set s : ℕ) → from ≤ s → s < from + count → is_among s (members_from from count set) ≡ has set s
unfolding members_from
among_members zero from set s at within = absurd (omega arith)
among_members (suc count) from set s at within =
    elim (cases_eq from s) [
      | inl equal ↦
          let none = below_rising (from + 1) from (members_from (from + 1) count set) (rising_members count (from + 1) (from + 1) set (omega arith)) (omega arith) in
          rw (← equal) (among_here (has set from) from (members_from (from + 1) count set) none)
      | inr other ↦
          let differs : s ≢ from = (λ same. other (sym same)) in
          among_cond (has set from) s from (members_from (from + 1) count set) differs ∙ among_members count (from + 1) set s (omega arith) (omega arith)
    ]

not_held : (b : Bool) → (b ≡ true → ⊥) → b ≡ false
not_held true never = absurd (never refl)
not_held false never = refl

-- a set without servers from 128 on is the set of its members
pub set_with-members : (set : ℕ) → ((s : ℕ) → has set s ≡ true → s < 128) → set_with (members set) ≡ set
set_with-members set small =
    same_sets (set_with (members set)) set (λ s. has-set_with (members set) s ∙ rw members_all (
    elim (cases_lt s 128) [
      | inl below ↦ among_members 128 0 set s (omega arith) (omega arith)
      | inr past ↦ among_past 128 s (members_from 0 128 set) (below_members 128 128 0 set (omega arith)) past ∙ sym (not_held (has set s) (λ held. (let b : s < 128 = small s held in omega arith)))
    ]))

-- what holds of all of some numbers holds of each
pub all_among : (p : ℕ → Bool) (s : ℕ) (servers : List ℕ) → list_all p servers ≡ true → is_among s servers ≡ true → p s ≡ true
all_among p s [] all among = cc
all_among p s (server ∷ servers) all among =
    let parts = and_true (p server) _ all in
    elim (cases_eq s server) [
      | inl equal ↦ ap p equal ∙ parts.0
      | inr other ↦
          let no' : eqb s server ≡ false = grind (arith, nat_tests) in
          all_among p s servers parts.1 (let F : Bool → Type 0 = λ b. (b || is_among s servers) ≡ true in subst F no' among)
    ]

all_cond : (p : ℕ → Bool) (b : Bool) (from : ℕ) (servers : List ℕ) → (b ≡ true → p from ≡ true) → list_all p servers ≡ true → list_all p (cond b (from ∷ servers) servers) ≡ true
all_cond p true from servers here rest = rw (here refl, rest) refl
all_cond p false from servers here rest = rest

all_from : (p : ℕ → Bool) (count from set : ℕ) → ((s : ℕ) → has set s ≡ true → p s ≡ true) → list_all p (members_from from count set) ≡ true
unfolding members_from
all_from p zero from set each = refl
all_from p (suc count) from set each = all_cond p (has set from) from (members_from (from + 1) count set) (each from) (all_from p count (from + 1) set each)

-- a test of all members, from a test of all that the set holds
pub all-members : (p : ℕ → Bool) (set : ℕ) → ((s : ℕ) → has set s ≡ true → p s ≡ true) → list_all p (members set) ≡ true
all-members p set each = rw members_all (all_from p 128 0 set each)

-- a set that holds a server isn't 0
pub some_set : (servers : List ℕ) (server : ℕ) → is_among server servers ≡ true → eqb (set_with servers) 0 ≡ false
some_set servers server among = not_held (eqb (set_with servers) 0) (λ none.
    let zero_set : set_with servers ≡ 0 = eqb-true (set_with servers) 0 none in
    let held : true ≡ false = sym among ∙ sym (has-set_with servers server) ∙ (let F : ℕ → Bool = λ k. has k server in ap F zero_set) ∙ has-empty server in
    cc)

-- a set without members is 0
pub no_members : (set : ℕ) → ((s : ℕ) → has set s ≡ true → s < 128) → members set ≡ [] → set ≡ 0
no_members set small none = sym (set_with-members set small) ∙ ap set_with none
