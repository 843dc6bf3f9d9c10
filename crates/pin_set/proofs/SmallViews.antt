-- A view of one server and three pins, for tests.
use Rattle.std.proofs.Common.{◌≡◌, ◌≢◌, ℕ, ◌^◌, ◌<◌, ◌≤◌, Some, None, true, false, [], ◌∷◌, get_or, sym, ap, ◌∙◌, arith}
use Rattle.std.proofs.lemmas.Bool.{false≢true}
use Rattle.std.proofs.lemmas.List.Elements.{All-nil, All-cons}
use Rattle.lb_types.specs.Names.{is_name}
use Rattle.lb_types.specs.Servers.{has}
use Rattle.lb_types.proofs.Sets.{has-empty}
use Rattle.lb_types_pins.proofs.Pairs.{AllPairs-nil, AllPairs-cons}
use Rattle.pin_set.specs.declared.pin.Pin.{Pin}
use Rattle.pin_set.specs.declared.view.ViewServer.{ViewServer}
use Rattle.pin_set.specs.Views.{IsBelow, IsView, view_of_parts}

-- what a pin of the view must be
pub record IsSmall (pin : Pin) : Type 0 where
  pub place : IsBelow 1 pin.place
  pub cost_from : 1 ≤ pin.cost
  pub cost_to : pin.cost ≤ 1000

abbrev OtherName : ViewServer → ViewServer → Type 0
OtherName a b = a.name ≢ b.name

abbrev OtherId : Pin → Pin → Type 0
OtherId a b = a.id ≢ b.id

other_id : (a b : Pin) → a.id.want ≢ b.id.want → a.id ≢ b.id
other_id a b other same = other (ap (λ id. id.want) same)

each_of : (P : Pin → Type 0) (a b c : Pin) → P a → P b → P c → (i : ℕ) (d : Pin) → i < 3 → P (get_or (a ∷ (b ∷ (c ∷ []))) i d)
each_of P a b c pa pb pc = All-cons P a (b ∷ (c ∷ [])) pa (All-cons P b (c ∷ []) pb (All-cons P c [] pc (All-nil P)))

-- pins that want different servers have different names
pub small_view : (server : ViewServer) (a b c : Pin) → is_name server.name ≡ true → server.capacity < 2 ^ 32 → a.id.want ≢ b.id.want → a.id.want ≢ c.id.want → b.id.want ≢ c.id.want
    → IsSmall a → IsSmall b → IsSmall c → IsView (view_of_parts 0 (server ∷ []) (a ∷ (b ∷ (c ∷ []))))
small_view server a b c named room ab ac bc is_a is_b is_c = record {
  few_servers = omega arith;
  named = All-cons (λ s. is_name s.name ≡ true) server [] named (All-nil (λ s. is_name s.name ≡ true));
  room = All-cons (λ s. s.capacity < 2 ^ 32) server [] room (All-nil (λ s. s.capacity < 2 ^ 32));
  distinct_servers = AllPairs-cons OtherName server [] (All-nil (OtherName server)) (AllPairs-nil OtherName);
  usable = λ s is. absurd (false≢true (sym (has-empty s) ∙ is));
  few_pins = omega arith;
  distinct_pins =
      AllPairs-cons OtherId a (b ∷ (c ∷ []))
      (All-cons (OtherId a) b (c ∷ []) (other_id a b ab) (All-cons (OtherId a) c [] (other_id a c ac) (All-nil (OtherId a))))
      (AllPairs-cons OtherId b (c ∷ []) (All-cons (OtherId b) c [] (other_id b c bc) (All-nil (OtherId b)))
      (AllPairs-cons OtherId c [] (All-nil (OtherId c)) (AllPairs-nil OtherId)));
  places = each_of (λ pin. IsBelow 1 pin.place) a b c is_a.place is_b.place is_c.place;
  cost_from = each_of (λ pin. 1 ≤ pin.cost) a b c is_a.cost_from is_b.cost_from is_c.cost_from;
  cost_to = each_of (λ pin. pin.cost ≤ 1000) a b c is_a.cost_to is_b.cost_to is_c.cost_to;
}

-- two sets differ where one has a server that the other lacks
pub other_set : (x y s : ℕ) → has x s ≡ true → has y s ≡ false → x ≢ y
other_set x y s is not_in same = false≢true (sym not_in ∙ (ap (λ set. has set s) (sym same) ∙ is))

pub none_below : (n : ℕ) → IsBelow n None
none_below n server is = cc

pub some_below : (n server : ℕ) → server < n → IsBelow n (Some server)
some_below n server below other is = let same : server ≡ other = cc in omega arith
