-- What a look-up by name says of the pins. `eq` is `==` of names.
use Rattle.std.proofs.Common.{◌≡◌, ◌≢◌, Bool, true, false, cond, List, [], ◌∷◌, Option, None, Some, is_some, IfSome, IfNone, refl, sym, ap, ◌∙◌, subst, true≢false}
use Rattle.std.proofs.lemmas.List.Elements.{All-nil, All-cons, All-head, All-tail}
use Rattle.std.proofs.lemmas.Option.{none-some, same_Some}
use Rattle.std.specs.Bool.{Decides}
use Rattle.std.specs.Map.{lookup}
use Rattle.pin_set.specs.declared.pin.PinId.{PinId}
use Rattle.pin_set.specs.declared.table_pin.TablePin.{TablePin}
use Rattle.lb_desk_model.specs.Serves.{StandsBetween, IsNew}
use Rattle.pin_table.specs.declared.held.Held.{Held}
use Rattle.pin_table.specs.Counted.{listed}
use Rattle.pin_table.specs.Pins.{held_pin, Stands}
use Rattle.pin_table.proofs.Apart.{All-without}

module _ (eq : PinId → PinId → Bool) (decides : (a b : PinId) → Decides (eq a b) (a ≡ b)) where
  pub differs : (a b : PinId) → eq a b ≡ false → b ≢ a
  differs a b fails same = true≢false (sym ((decides a b).1 (sym same)) ∙ fails)

  pub not_equal : (a b : PinId) → b ≢ a → eq a b ≡ false
  not_equal a b apart = by (eq a b) refl
    where
      by : (t : Bool) → eq a b ≡ t → t ≡ false
      by true passes = absurd (apart (sym ((decides a b).0 passes)))
      by false fails = refl

  pub found : (name : PinId) (pairs : List (PinId × Held)) (held : Held) → lookup (eq name) pairs ≡ Some held → Stands name held (listed pairs)
  found name [] held is = absurd (none-some held is)
  found name (e ∷ pairs) held is = by (eq name e.0) refl is (found name pairs held)
    where
      by : (t : Bool) → eq name e.0 ≡ t → cond t (Some e.1) (lookup (eq name) pairs) ≡ Some held
          → (lookup (eq name) pairs ≡ Some held → Stands name held (listed pairs)) → Stands name held (listed (e ∷ pairs))
      by true passes here later =
          let same : name ≡ e.0 = (decides name e.0).0 passes in
          let value : e.1 ≡ held = same_Some e.1 held here in
          ([], listed pairs, record { is = ap (λ (h : Held). held_pin e.0 h ∷ listed pairs) value ∙ ap (λ (n : PinId). held_pin n held ∷ listed pairs) (sym same); named = refl })
      by false fails there later =
          let rest = later there in
          (held_pin e.0 e.1 ∷ rest.0, rest.1, record { is = ap (λ l. held_pin e.0 e.1 ∷ l) rest.2.is; named = refl })

  pub absent : (name : PinId) (pairs : List (PinId × Held)) → lookup (eq name) pairs ≡ None → IsNew name (listed pairs)
  absent name [] none = All-nil (λ (p : TablePin). p.pin.id ≢ name)
  absent name (e ∷ pairs) none = by (eq name e.0) refl none (absent name pairs)
    where
      by : (t : Bool) → eq name e.0 ≡ t → cond t (Some e.1) (lookup (eq name) pairs) ≡ None
          → (lookup (eq name) pairs ≡ None → IsNew name (listed pairs)) → IsNew name (listed (e ∷ pairs))
      by true passes here later = absurd (none-some e.1 (sym here))
      by false fails there later = All-cons (λ (p : TablePin). p.pin.id ≢ name) (held_pin e.0 e.1) (listed pairs) (differs name e.0 fails) (later there)

  pub new_absent : (name : PinId) (pairs : List (PinId × Held)) → IsNew name (listed pairs) → lookup (eq name) pairs ≡ None
  new_absent name [] new = refl
  new_absent name (e ∷ pairs) new =
      ap (λ t. cond t (Some e.1) (lookup (eq name) pairs)) (not_equal name e.0 (All-head (λ (p : TablePin). p.pin.id ≢ name) (held_pin e.0 e.1) (listed pairs) new))
      ∙ new_absent name pairs (All-tail (λ (p : TablePin). p.pin.id ≢ name) (held_pin e.0 e.1) (listed pairs) new)

  -- a name that stands between pins isn't new to them
  pub not_new : (name : PinId) (pins before : List TablePin) (p : TablePin) (after : List TablePin) → StandsBetween name pins before p after → IsNew name pins → ⊥
  not_new name pins before p after stands new =
      (All-without (λ (q : TablePin). q.pin.id ≢ name) before p after (subst (IsNew name) stands.is new)).1 stands.named

  -- so a look-up finds it
  pub stands_found : (name : PinId) (pairs : List (PinId × Held)) (held : Held) → Stands name held (listed pairs) → (r : Option Held) → r ≡ lookup (eq name) pairs → is_some r ≡ true
  stands_found name pairs held stands None is = absurd (not_new name (listed pairs) stands.0 (held_pin name held) stands.1 stands.2 (absent name pairs (sym is)))
  stands_found name pairs held stands (Some v) is = refl

  pub found_all : (name : PinId) (pairs : List (PinId × Held)) (r : Option Held) → r ≡ lookup (eq name) pairs → IfSome r (λ held. Stands name held (listed pairs))
  found_all name pairs None is = tt
  found_all name pairs (Some held) is = found name pairs held (sym is)

  pub absent_all : (name : PinId) (pairs : List (PinId × Held)) (r : Option Held) → r ≡ lookup (eq name) pairs → IfNone r (IsNew name (listed pairs))
  absent_all name pairs None is = absent name pairs (sym is)
  absent_all name pairs (Some held) is = tt
