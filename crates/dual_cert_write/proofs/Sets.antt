-- The word for a set, one member after another.
use Rattle.std.proofs.Common.{◌≡◌, ℕ, zero, suc, ◌+◌, ◌-◌, ◌<◌, ◌≤◌, Bool, true, false, eqb, cond, List, [], ◌∷◌, ◌++◌, length, map, refl, sym, ap, ◌∙◌, arith, append_assoc, append-nil, length-append}
use Rattle.std.specs.List.{join_with_byte}
use Rattle.std.proofs.lemmas.Bool.Decides.{nat_tests}
use Rattle.std.proofs.lemmas.List.{length-map, map_push}
use Rattle.lb_types.specs.Servers.{has, members_below, members}
use Rattle.lb_types.proofs.Sets.{has-empty}
use Rattle.dual_cert_plan.specs.declared.server.PricedServer.{PricedServer}
use Rattle.dual_cert_text.specs.Spellings.{name_at, set_word}
use Rattle.dual_cert_write.specs.Sending.{member_text}
use Rattle.dual_cert_write.proofs.Joins.{join-push}

-- one number more
members_more : (i set : ℕ) → members_below (i + 1) set ≡ members_below i set ++ cond (has set i) (i ∷ []) []
unfolding members_below
members_more i set = let e : i + 1 ≡ suc i = omega arith in rw e refl

-- no member below a number
pub no_members : (i set : ℕ) → ((s : ℕ) → s < i → has set s ≡ false) → members_below i set ≡ []
unfolding members_below
no_members zero set none = refl
no_members (suc i) set none = rw (no_members i set (λ s below. none s (omega arith)), none i (omega arith)) refl

-- no member from a number on
no_more : (i k set : ℕ) → ((s : ℕ) → has set s ≡ true → s < i) → members_below (i + k) set ≡ members_below i set
no_more i zero set all = let e : i + 0 ≡ i = omega arith in rw e refl
no_more i (suc k) set all =
    let e : i + suc k ≡ (i + k) + 1 = omega arith in
    rw (e, members_more (i + k) set, not_there (has set (i + k)) (λ there. (let w = all (i + k) there in omega arith)), append-nil {A = ℕ}) (no_more i k set all)
  where
    not_there : (b : Bool) → (b ≡ true → ⊥) → b ≡ false
    not_there true never = absurd (never refl)
    not_there false never = refl

pub all_members : (i set : ℕ) → i ≤ 128 → ((s : ℕ) → has set s ≡ true → s < i) → members_below i set ≡ members set
unfolding members
all_members i set within all =
    let e : 128 ≡ i + (128 - i) = omega arith in
    rw e (sym (no_more i (128 - i) set all))

-- the first member alone
pub first_member : (first set : ℕ) → has set first ≡ true → ((s : ℕ) → s < first → has set s ≡ false) → members_below (first + 1) set ≡ first ∷ []
first_member first set there none = rw (members_more first set, no_members first set none, there) refl

-- the names of the set's members below a number
abbrev pub names_below : List PricedServer → ℕ → ℕ → List (List ℕ)
names_below servers i set = map (λ server. name_at servers server) (members_below i set)

-- one number more, behind some members
pub names-more : (servers : List PricedServer) (i set : ℕ) → 0 < length (members_below i set) → join_with_byte 44 (names_below servers (i + 1) set) ≡ join_with_byte 44 (names_below servers i set) ++ member_text servers set i
names-more servers i set some = rw (members_more i set) (by_case (has set i))
  where
    nonempty : 0 < length (names_below servers i set)
    nonempty = omega (arith, length-map (members_below i set) (λ server. name_at servers server))

    by_case : (b : Bool) → join_with_byte 44 (map (λ server. name_at servers server) (members_below i set ++ cond b (i ∷ []) [])) ≡ join_with_byte 44 (names_below servers i set) ++ cond b (44 ∷ name_at servers i) []
    by_case true = ap (join_with_byte 44) (map_push (λ server. name_at servers server) (members_below i set) i) ∙ join-push 44 (names_below servers i set) (name_at servers i) nonempty ∙ append_assoc (join_with_byte 44 (names_below servers i set)) (44 ∷ []) (name_at servers i)
    by_case false = ap (λ l. join_with_byte 44 (map (λ server. name_at servers server) l)) (append-nil (members_below i set)) ∙ sym (append-nil (join_with_byte 44 (names_below servers i set)))

pub some_more : (i set : ℕ) → 0 < length (members_below i set) → 0 < length (members_below (i + 1) set)
some_more i set some = rw (members_more i set) (omega (arith, length-append (members_below i set) (cond (has set i) (i ∷ []) [])))

-- the word for a set that has members, all of them listed
pub set_word-names : (servers : List PricedServer) (i set first : ℕ) → has set first ≡ true → i ≤ 128 → ((s : ℕ) → has set s ≡ true → s < i) → join_with_byte 44 (names_below servers i set) ≡ set_word servers set
unfolding set_word
set_word-names servers i set first there within all =
    rw (some_set set first there, all_members i set within all) refl
  where
    some_set : (a f : ℕ) → has a f ≡ true → eqb a 0 ≡ false
    some_set zero f held = absurd (let e : false ≡ true = sym (has-empty f) ∙ held in cc)
    some_set (suc a) f held = grind (arith, nat_tests)
