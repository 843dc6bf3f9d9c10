-- Table and book, as pins go.
use Rattle.std.proofs.Common.{◌≡◌, ℕ, ◌+◌, ◌<◌, cond, Option, Some, None, IfSome, List, ◌∷◌, length, sym, ap, subst, ◌∙◌, arith}
use Rattle.std.proofs.lemmas.List.Elements.{All-head, All-tail}
use Rattle.std.proofs.lemmas.List.Sums.{sum_by-cons}
use Rattle.pin_set.specs.Assignments.{is_at}
use Rattle.pin_set.specs.Views.{IsBelow}
use Rattle.capacity_book.specs.Book.{BookView, pins_at}
use Rattle.pin_set.specs.declared.table_pin.TablePin.{TablePin}
use Rattle.lb_desk_model.specs.Serves.{load}
use Rattle.pin_table.specs.Tables.{TableParts, with_pins}
use Rattle.lb_desk_core.specs.Expiring.{AreCounted, ArePlaced, IsGone}

-- a table with other pins, and with others again
pub other_pins : (first old new : TableParts) → old ≡ with_pins first old.pins → new ≡ with_pins old new.pins → new ≡ with_pins first new.pins
other_pins first old new once again = again ∙ ap (λ (t : TableParts). with_pins t new.pins) once

-- 1 where the place is this server, else 0
abbrev one : Option ℕ → ℕ → ℕ
one place server = cond {A = ℕ} (is_at server place) 1 0

load-cons : (p : TablePin) (pins : List TablePin) (server : ℕ) → load (p ∷ pins) server ≡ one p.pin.place server + load pins server
load-cons p pins server = sum_by-cons (λ (q : TablePin). cond {A = ℕ} (is_at server q.pin.place) 1 0) p pins

one-refl : (server : ℕ) → one (Some server) server ≡ 1
one-refl server = grind (arith, Rattle.std.proofs.lemmas.Bool.Decides.nat_tests)

abbrev is_below : ℕ → TablePin → Type 0
is_below servers p = IsBelow servers p.pin.place

-- a server has a pin where one goes
holds_one : (book : BookView) (p : TablePin) (pins : List TablePin) (place : Option ℕ) → AreCounted book (p ∷ pins) → p.pin.place ≡ place
    → IfSome place (λ server. 0 < pins_at book server)
holds_one book p pins None counted at = tt
holds_one book p pins (Some server) counted at =
    let below : server < length book.pins = All-head (is_below (length book.pins)) p pins counted.placed server at in
    let here : one p.pin.place server ≡ 1 = ap (λ (o : Option ℕ). one o server) at ∙ one-refl server in
    omega (arith, counted.loads server below, load-cons p pins server, here)

pub gone_held : (book : BookView) (expire now : ℕ) (place : Option ℕ) (old new : List TablePin) → AreCounted book old → IsGone expire now place old new
    → IfSome place (λ server. 0 < pins_at book server)
gone_held book expire now place old new counted gone =
    holds_one book gone.pin new place (subst (λ (pins : List TablePin). AreCounted book pins) gone.first counted) gone.at

-- a book with one pin fewer at the place counts those that stay
pub gone_counted : (book after : BookView) (expire now : ℕ) (place : Option ℕ) (old new : List TablePin) → AreCounted book old → IsGone expire now place old new
    → length after.pins ≡ length book.pins → ((server : ℕ) → pins_at after server + one place server ≡ pins_at book server)
    → AreCounted after new
gone_counted book after expire now place old new counted gone many fewer =
    let all = subst (λ (pins : List TablePin). AreCounted book pins) gone.first counted in
    record {
      loads = λ server below.
          let here : one gone.pin.pin.place server ≡ one place server = ap (λ (o : Option ℕ). one o server) gone.at in
          let within : server < length book.pins = omega (arith, many, below) in
          omega (arith, all.loads server within, load-cons gone.pin new server, fewer server, here);
      placed = subst (λ (n : ℕ). ArePlaced n new) (sym many) (All-tail (is_below (length book.pins)) gone.pin new all.placed);
    }
