-- Pins that weren't used for long, and the books that count pins. No public clause cites this module.
use Rattle.std.specs.Prelude.{◌≡◌, ℕ, ◌+◌, ◌<◌, ◌≤◌, Bool, true, false, nat_le, Option, List, ◌∷◌, length, All, AllPairs}
use Rattle.std.specs.Option.{option_map_or}
use Rattle.pin_set.specs.Views.{IsBelow}
use Rattle.capacity_book.specs.Book.{BookView, pins_at}
use Rattle.lb_types.specs.declared.table_settings.TableSettings.{TableSettings}
use Rattle.pin_set.specs.declared.table_pin.TablePin.{TablePin}
use Rattle.lb_desk_model.specs.Serves.{load}

-- the pin wasn't used for so long
abbrev pub is_older : ℕ → ℕ → TablePin → Bool
is_older expire now p = nat_le (p.last_use + expire) now

-- the table lets a pin go that wasn't used for so long
abbrev pub is_due : Option TableSettings → ℕ → TablePin → Bool
is_due settings now p = option_map_or (λ table. option_map_or (λ expire. is_older expire now p) table.expire false) settings false

-- last uses never fall along the list
abbrev pub AreRising : List TablePin → Type 0
AreRising pins = AllPairs (λ a b. a.last_use ≤ b.last_use) pins

-- each place is one of so many servers
abbrev pub ArePlaced : ℕ → List TablePin → Type 0
ArePlaced servers pins = All (λ p. IsBelow servers p.pin.place) pins

-- the book counts these pins, each of them at a server that it has
pub record AreCounted (book : BookView) (pins : List TablePin) : Type 0 where
  pub loads : (server : ℕ) → server < length book.pins → pins_at book server ≡ load pins server
  pub placed : ArePlaced (length book.pins) pins

-- the first pin went, which wasn't used for so long, and was at this place
pub record IsGone (expire now : ℕ) (place : Option ℕ) (old new : List TablePin) : Type 0 where
  pub pin : TablePin
  pub first : old ≡ pin ∷ new
  pub older : is_older expire now pin ≡ true
  pub at : pin.pin.place ≡ place

-- the first pin, if there is one, was used since
abbrev pub FirstStays : ℕ → ℕ → List TablePin → Type 0
FirstStays expire now pins = (p : TablePin) (rest : List TablePin) → pins ≡ p ∷ rest → is_older expire now p ≡ false
