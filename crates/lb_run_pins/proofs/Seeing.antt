-- Each seat is asked once for the pins of its desk, and stays at it.
use Rattle.std.proofs.Common.{◌≡◌, ◌≢◌, ◌∙◌, ◌<◌, ℕ, zero, suc, Some, List, [], ◌∷◌, length, map, refl, sym, ap, arith}
use Rattle.std.specs.Option.{option_map}
use Rattle.std.specs.Prelude.{slice_get, slice_set}
use Rattle.std.proofs.lemmas.List.{length-map}
use Rattle.std.proofs.lemmas.Option.{same_Some, slice_get-map}
use Rattle.lb_config.specs.ConfigViews.{BackendView}
use Rattle.lb_desk_model.specs.declared.entry.Entry.{Entry}
use Rattle.lb_desk_model.specs.Backends.{OpenedBackend}
use Rattle.lb_run_pins.specs.Copies.{IsCopyAt, SeatSeen, seat_seen}
use Rattle.lb_run_pins.specs.Saved.{TableView}

module _ {S : Type 0} where
  set_here : (seats : List S) (place : ℕ) (new : S) → place < length seats → slice_get (slice_set seats place new) place ≡ Some new
  set_here [] place new within = absurd (omega arith)
  set_here (s ∷ ss) zero new within = refl
  set_here (s ∷ ss) (suc place) new within = set_here ss place new (omega arith)

  -- the others stay as they are
  pub set_elsewhere : (seats : List S) (place other : ℕ) (new : S) → other ≢ place → slice_get (slice_set seats place new) other ≡ slice_get seats other
  set_elsewhere [] place other new apart = refl
  set_elsewhere (s ∷ ss) zero zero new apart = absurd (apart refl)
  set_elsewhere (s ∷ ss) zero (suc other) new apart = refl
  set_elsewhere (s ∷ ss) (suc place) zero new apart = refl
  set_elsewhere (s ∷ ss) (suc place) (suc other) new apart = set_elsewhere ss place other new (λ same. apart (ap suc same))

  module _ (backend : S → OpenedBackend) where
    -- a seat that stays at its desk takes its place again
    pub desks_stay : (seats : List S) (place : ℕ) (old new : S) → slice_get seats place ≡ Some old → backend new ≡ backend old
        → map backend (slice_set seats place new) ≡ map backend seats
    desks_stay [] place old new there same = refl
    desks_stay (s ∷ ss) zero old new there same =
        ap (λ (b : OpenedBackend). b ∷ map backend ss) (same ∙ ap backend (sym (same_Some s old there)))
    desks_stay (s ∷ ss) (suc place) old new there same = ap (λ (bs : List OpenedBackend). backend s ∷ bs) (desks_stay ss place old new there same)

    -- seats at the same desks are as many
    pub as_many : (seats used : List S) → map backend used ≡ map backend seats → length used ≡ length (map backend seats)
    as_many seats used same = sym (length-map used backend) ∙ ap (λ (l : List OpenedBackend). length l) same

  module _ (backend : S → OpenedBackend) (entries : S → List Entry) (sights : S → List (List Entry)) where
    -- as a seat that was asked is seen after that
    pub seen_here : (seats : List S) (place : ℕ) (new : S) → place < length seats
        → slice_get (map (seat_seen backend entries sights) (slice_set seats place new)) place ≡ Some (seat_seen backend entries sights new)
    seen_here seats place new within =
        slice_get-map (seat_seen backend entries sights) (slice_set seats place new) place
        ∙ ap (option_map (seat_seen backend entries sights)) (set_here seats place new within)

    -- a copy of an earlier seat is one after another seat was asked
    pub copy_stays : (configs : List BackendView) (seats : List SeatSeen) (used : List S) (place other : ℕ) (new : S) (table : TableView) → other ≢ place
        → IsCopyAt configs seats (map (seat_seen backend entries sights) used) other table
        → IsCopyAt configs seats (map (seat_seen backend entries sights) (slice_set used place new)) other table
    copy_stays configs seats used place other new table apart copy = record {
      old = copy.old;
      new = copy.new;
      there = copy.there;
      after =
          slice_get-map (seat_seen backend entries sights) (slice_set used place new) other
          ∙ ap (option_map (seat_seen backend entries sights)) (set_elsewhere used place other new apart)
          ∙ sym (slice_get-map (seat_seen backend entries sights) used other) ∙ copy.after;
      backend = copy.backend;
      pins = copy.pins;
    }
