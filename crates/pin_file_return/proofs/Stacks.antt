-- Entries of a map that come in at one end.
use Rattle.std.proofs.Common.{◌≡◌, Bool, true, false, cond, ◌||◌, Option, Some, None, is_some, List, [], ◌∷◌, ◌++◌, map, reverse, refl, sym, ap, ◌∙◌}
use Rattle.std.specs.Map.{lookup}
use Rattle.indexmap.specs.IndexMap.{IndexMap, insert_entry}
use Rattle.indexmap.proofs.CallerLemmas.{insert_entry-new}
use Rattle.std.proofs.lemmas.List.{map_push, reverse-append}
use Rattle.std.proofs.lemmas.List.Folds.{list_any-append}
use Rattle.pin_set.specs.declared.pin.PinId.{PinId}
use Rattle.pin_set.specs.declared.table_pin.TablePin.{TablePin}
use Rattle.pin_file_return.specs.Returns.{is_named}
use Rattle.pin_file_return.specs.Stays.{pin_of, pins_in}
use Rattle.pin_file_return.specs.declared.stay.Stay.{Stay}
use Rattle.pin_file_return.proofs.Names.{same}

looked : (name : PinId) (es : List (PinId × Stay)) → is_named name (map pin_of es) ≡ is_some (lookup (same name) es)
looked name [] = refl
looked name (e ∷ es) = by (same name e.0) (looked name es)
  where
    by : (b : Bool) → is_named name (map pin_of es) ≡ is_some (lookup (same name) es)
        → (b || is_named name (map pin_of es)) ≡ is_some (cond b (Some e.1) (lookup (same name) es))
    by true rest = refl
    by false rest = rest

or-turn : (a b : Bool) → (a || (b || false)) ≡ (b || a)
or-turn true true = refl
or-turn true false = refl
or-turn false true = refl
or-turn false false = refl

named_back : (name : PinId) (pins : List TablePin) → is_named name (reverse pins) ≡ is_named name pins
named_back name [] = refl
named_back name (p ∷ pins) =
    ap (is_named name) (reverse-append (p ∷ []) pins)
    ∙ (list_any-append (λ (q : TablePin). same name q.pin.id) (reverse pins) (p ∷ [])
    ∙ (or-turn (is_named name (reverse pins)) (same name p.pin.id) ∙ ap (λ (b : Bool). same name p.pin.id || b) (named_back name pins)))

-- a name is among the pins where it is a key
pub named_in : (name : PinId) (es : List (PinId × Stay)) → is_named name (pins_in es) ≡ is_some (lookup (same name) es)
named_in name es = named_back name (map pin_of es) ∙ looked name es

none_there : (o : Option Stay) → is_some o ≡ false → o ≡ None
none_there None e = refl
none_there (Some x) e = cc

pub pushed_in : (es : List (PinId × Stay)) (e : PinId × Stay) → pins_in (es ++ e ∷ []) ≡ pin_of e ∷ pins_in es
pushed_in es e = ap reverse (map_push pin_of es e) ∙ reverse-append (map pin_of es) (pin_of e ∷ [])

-- a pin of a new name came in
pub added : {S : Type 0} (m : IndexMap PinId Stay S) (name : PinId) (stay : Stay) (entries : List (PinId × Stay)) (before : List TablePin)
    → pins_in m.entries ≡ before → is_some (lookup (same name) m.entries) ≡ false → entries ≡ insert_entry same m.entries name stay
    → pins_in entries ≡ cond (is_named name before) before (pin_of (name, stay) ∷ before)
added m name stay entries before is none grown =
    let gone : is_named name before ≡ false = ap (is_named name) (sym is) ∙ (named_in name m.entries ∙ none) in
    ap pins_in (grown ∙ insert_entry-new same m name stay (none_there (lookup (same name) m.entries) none))
    ∙ (pushed_in m.entries (name, stay)
    ∙ (ap (λ (l : List TablePin). pin_of (name, stay) ∷ l) is ∙ sym (ap (λ (b : Bool). cond b before (pin_of (name, stay) ∷ before)) gone)))
