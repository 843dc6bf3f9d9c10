-- Elements that are told apart by their numbers, and the view of such pins and servers.
use Rattle.std.proofs.Common.{◌≡◌, ℕ, ◌+◌, ◌/◌, ◌%◌, ◌^◌, ◌<◌, ◌≤◌, Bool, true, false, ◌&&◌, List, [], ◌∷◌, ◌++◌, length, get_or, refl, sym, ap, subst, ◌∙◌, inl, inr, arith}
use Rattle.std.specs.Prelude.{◌↔◌}
use Rattle.std.specs.List.{All}
use Rattle.std.proofs.lemmas.Bool.{cases_lt}
use Rattle.std.proofs.lemmas.List.{get_or_append_left, get_or-append-add}
use Rattle.std.proofs.lemmas.List.Elements.{All-from_get_or}
use Rattle.lb_types.specs.Names.{is_name}
use Rattle.lb_types.specs.Servers.{has}
use Rattle.lb_types.proofs.Sets.{same_sets}
use Rattle.pin_set.specs.declared.pin.Pin.{Pin}
use Rattle.pin_set.specs.declared.view.ViewServer.{ViewServer}
use Rattle.pin_set.specs.Views.{IsBelow, IsView, view_of_parts}
use Rattle.pin_groups_spread.specs.Numbered.{AreBelow, EachNumbered, key_number, IsNumberedServer, AreNumberedServers, IsNumberedPin, AreNumberedPins}

and_kept : (a b : Bool) → (a ≡ true → b ≡ true) → (a && b) ≡ a
and_kept true b implies = implies refl
and_kept false b implies = refl

and_right : (a b : Bool) → (a && b) ≡ true → b ≡ true
and_right true b both = both
and_right false b both = cc

-- a set that lies below n is what it has in common with all servers below n
pub below_meet : (n servers first meet : ℕ) → ((s : ℕ) → has meet s ≡ (has servers s && has first s)) → ((s : ℕ) → (has first s ≡ true) ↔ (s < n)) → AreBelow n servers → meet ≡ servers
below_meet n servers first meet is_meet is_first below =
    same_sets meet servers (λ s. is_meet s ∙ and_kept (has servers s) (has first s) (λ held. (is_first s).1 (below s held)))

pub meet_below : (n servers first meet : ℕ) → ((s : ℕ) → has meet s ≡ (has servers s && has first s)) → ((s : ℕ) → (has first s ≡ true) ↔ (s < n)) → meet ≡ servers → AreBelow n servers
meet_below n servers first meet is_meet is_first same s held =
    let both : (has servers s && has first s) ≡ true = sym (is_meet s) ∙ (ap (λ m. has m s) same ∙ held) in
    (is_first s).0 (and_right (has servers s) (has first s) both)

pub length_more : {X : Type 0} (xs : List X) (x : X) → length (xs ++ x ∷ []) ≡ length xs + 1
length_more [] x = refl
length_more (y ∷ xs) x = omega (arith, length_more xs x)

-- one element more, behind the others
pub each_more : {X : Type 0} (P : ℕ → X → Type 0) (xs : List X) (x : X) → EachNumbered P xs → P (length xs) x → EachNumbered P (xs ++ x ∷ [])
each_more {X} P xs x each last k d below =
    elim (cases_lt k (length xs)) [
      | inl low ↦ let Holds : X → Type 0 = P k in subst Holds (sym (get_or_append_left xs (x ∷ []) d k low)) (each k d low)
      | inr past ↦
          let at : k ≡ length xs = omega (arith, length_more xs x) in
          let end : get_or (xs ++ x ∷ []) (length xs) d ≡ x = ap (λ n. get_or (xs ++ x ∷ []) n d) (omega arith) ∙ get_or-append-add xs (x ∷ []) 0 d in
          let Holds : X → Type 0 = P (length xs) in
          rw at (subst Holds (sym end) last)
    ]

pub each-all : {X : Type 0} (P : ℕ → X → Type 0) (Q : X → Type 0) (xs : List X) → ((k : ℕ) (x : X) → P k x → Q x) → EachNumbered P xs → All Q xs
each-all P Q [] implies each = All-none
  where
    All-none : All Q []
    All-none i d below = absurd (omega arith)
each-all P Q (x ∷ xs) implies each = All-from_get_or Q (x ∷ xs) x (λ k below. implies k (get_or (x ∷ xs) k x) (each k x below))

-- two numbers are one where the letters are
same_letters : (i j : ℕ) (name other : List ℕ) → name ≡ (97 + i / 16) ∷ (97 + i % 16) ∷ [] → other ≡ (97 + j / 16) ∷ (97 + j % 16) ∷ [] → name ≡ other
    → i ≡ j
same_letters i j name other is are same =
    let both : (97 + i / 16) ∷ (97 + i % 16) ∷ [] ≡ (97 + j / 16) ∷ (97 + j % 16) ∷ [] = sym is ∙ (same ∙ are) in
    let first : 97 + i / 16 ≡ 97 + j / 16 = cc in
    let second : 97 + i % 16 ≡ 97 + j % 16 = cc in
    omega arith

pub numbered-view : (usable n : ℕ) (servers : List ViewServer) (pins : List Pin) → length servers ≡ n → n ≤ 128 → length pins ≤ 16777216
    → ((server : ℕ) → has usable server ≡ true → server < n) → AreNumberedServers servers → AreNumberedPins n pins
    → IsView (view_of_parts usable servers pins)
numbered-view usable n servers pins long few few_pins below are_servers are_pins = record {
  few_servers = omega arith;
  named = each-all IsNumberedServer (λ s. is_name s.name ≡ true) servers (λ k s is. is.named) are_servers;
  room = each-all IsNumberedServer (λ s. s.capacity < 2 ^ 32) servers (λ k s is. is.room) are_servers;
  distinct_servers = λ i j d less within same.
      let one = same_letters i j (get_or servers i d).name (get_or servers j d).name (are_servers i d (omega arith)).letters (are_servers j d within).letters same in
      absurd (omega arith);
  usable = λ s is. let low = below s is in omega arith;
  few_pins = few_pins;
  distinct_pins = λ i j d less within same.
      let one : i ≡ j = sym (are_pins i d (omega arith)).number ∙ (ap (λ id. key_number id.key) same ∙ (are_pins j d within).number) in
      absurd (omega arith);
  places = each-all (IsNumberedPin n) (λ p. IsBelow (length servers) p.place) pins (λ k p is. rw long is.place) are_pins;
  cost_from = each-all (IsNumberedPin n) (λ p. 1 ≤ p.cost) pins (λ k p is. is.cost_from) are_pins;
  cost_to = each-all (IsNumberedPin n) (λ p. p.cost ≤ 1000) pins (λ k p is. is.cost_to) are_pins;
}
