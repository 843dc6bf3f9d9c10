-- A walk over a backend's pins, from the one that was used last on.
use Rattle.std.proofs.Common.{◌≡◌, ℕ, ◌-◌, ◌<◌, ◌≤◌, ◌⊎◌, inl, inr, Bool, true, false, cond, Option, Some, None, List, [], ◌∷◌, ◌++◌, length, refl, sym, ap, ◌∙◌, subst, append_assoc, append-nil, arith}
use Rattle.std.specs.Prelude.{filter_map}
use Rattle.std.proofs.lemmas.List.{nil_from_length}
use Rattle.std.proofs.lemmas.List.Elements.{filter_map-append}
use Rattle.pin_set.specs.declared.table_pin.TablePin.{TablePin}
use Rattle.lb_acl.specs.declared.key.TableType.{TableType}
use Rattle.lb_config_parameters.specs.TableViews.{StickTableView}
use Rattle.lb_config_values.specs.ServerView.{ServerView}
use Rattle.pin_file.specs.declared.file_pin.FilePin.{FilePin}
use Rattle.pin_file_return.specs.Returns.{back_in_table, come_back, is_named, last_of_each, last_ones}
use Rattle.pin_file_return.proofs.Names.{last_behind, last_few, last_full, named_last, part-last}
use Rattle.pin_file_return.proofs.Parts.{mapped-length, part-drop, part-length}

-- a pin in front of others, unless one of them has its name
abbrev pub in_front : TablePin → List TablePin → List TablePin
in_front p pins = cond (is_named p.pin.id pins) pins (p ∷ pins)

in_front_last : (p : TablePin) (pins : List TablePin) → in_front p (last_of_each pins) ≡ last_of_each (p ∷ pins)
unfolding last_of_each
in_front_last p pins = ap (λ (b : Bool). cond b (last_of_each pins) (p ∷ last_of_each pins)) (named_last p.pin.id pins)

-- what was kept after the pins behind the first so many
pub record Walked (servers : List ServerView) (kind : TableType) (size now : ℕ) (pins rest : List FilePin) (kept : List TablePin) : Type 0 where
  pub done : List FilePin
  pub is : pins ≡ rest ++ done
  pub kept_is : kept ≡ last_of_each (filter_map (come_back servers kind now) done)
  pub few : length kept ≤ size

module _ (servers : List ServerView) (kind : TableType) (size now : ℕ) (pins : List FilePin) where
  pub walk_start : Walked servers kind size now pins pins []
  unfolding last_of_each
  walk_start = record { done = []; is = sym (append-nil pins); kept_is = refl; few = omega arith }

  pub walk_none : (rest older : List FilePin) (p : FilePin) (kept : List TablePin) → Walked servers kind size now pins rest kept
      → rest ≡ older ++ p ∷ [] → come_back servers kind now p ≡ None → Walked servers kind size now pins older kept
  walk_none rest older p kept w is none = record {
    done = p ∷ w.done;
    is = w.is ∙ ap (λ (l : List FilePin). l ++ w.done) is ∙ append_assoc older (p ∷ []) w.done;
    kept_is = w.kept_is
        ∙ ap (λ (o : Option TablePin). last_of_each (Rattle.std.specs.List.cons_option o (filter_map (come_back servers kind now) w.done))) (sym none);
    few = w.few;
  }

  pub walk_some : (rest older : List FilePin) (p : FilePin) (q : TablePin) (kept : List TablePin) → Walked servers kind size now pins rest kept
      → rest ≡ older ++ p ∷ [] → come_back servers kind now p ≡ Some q → length kept < size → Walked servers kind size now pins older (in_front q kept)
  walk_some rest older p q kept w is some room = record {
    done = p ∷ w.done;
    is = w.is ∙ ap (λ (l : List FilePin). l ++ w.done) is ∙ append_assoc older (p ∷ []) w.done;
    kept_is = ap (in_front q) w.kept_is
        ∙ in_front_last q (filter_map (come_back servers kind now) w.done)
        ∙ ap (λ (o : Option TablePin). last_of_each (Rattle.std.specs.List.cons_option o (filter_map (come_back servers kind now) w.done))) (sym some);
    few = by (is_named q.pin.id kept);
  }
    where
      by : (b : Bool) → length (cond b kept (q ∷ kept)) ≤ size
      by true = omega (arith, room)
      by false = omega (arith, room)

module _ (servers : List ServerView) (table : StickTableView) (now : ℕ) (pins : List FilePin) where
  abbrev back : List FilePin → List TablePin
  back l = filter_map (come_back servers table.kind now) l

  pub walk_end : (kept : List TablePin) → Walked servers table.kind table.size now pins [] kept → kept ≡ back_in_table servers table now pins
  walk_end kept w =
      sym (last_few table.size kept w.few)
      ∙ ap (last_ones table.size) (w.kept_is ∙ ap (λ (l : List FilePin). last_of_each (back l)) (sym w.is))

  pub walk_full : (rest : List FilePin) (kept : List TablePin) → Walked servers table.kind table.size now pins rest kept → length kept ≡ table.size
      → kept ≡ back_in_table servers table now pins
  walk_full rest kept w full =
      let all : back pins ≡ back rest ++ back w.done = ap back w.is ∙ filter_map-append (come_back servers table.kind now) rest w.done in
      let behind = last_behind (back rest) (back w.done) in
      let whole : last_of_each (back pins) ≡ behind.0 ++ kept =
      ap last_of_each all ∙ behind.1 ∙ ap (λ (l : List TablePin). behind.0 ++ l) (sym w.kept_is) in
      sym (ap (last_ones table.size) whole ∙ last_full table.size behind.0 kept full)

  -- nothing is left, or the table is full
  pub walk_over : (size : ℕ) (rest : List FilePin) (kept : List TablePin) → size ≡ table.size → Walked servers table.kind size now pins rest kept
      → (length rest ≡ 0) ⊎ (length kept ≡ size) → kept ≡ back_in_table servers table now pins
  walk_over size rest kept same w over =
      let to_size = subst (λ (n : ℕ). Walked servers table.kind n now pins rest kept) same w in
      elim over [
        | inl none ↦ walk_end kept (subst (λ (l : List FilePin). Walked servers table.kind table.size now pins l kept) (nil_from_length rest none) to_size)
        | inr full ↦ walk_full rest kept to_size (full ∙ same)
      ]

  pub back_few : length (back_in_table servers table now pins) ≤ length pins
  back_few =
      let one = part-length (last_ones table.size (last_of_each (back pins))) (last_of_each (back pins))
      (part-drop (length (last_of_each (back pins)) - table.size) (last_of_each (back pins))) in
      let two = part-length (last_of_each (back pins)) (back pins) (part-last (back pins)) in
      let three = mapped-length (come_back servers table.kind now) pins in
      omega (arith, one, two, three)
