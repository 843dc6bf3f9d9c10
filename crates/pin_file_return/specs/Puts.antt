-- What setting pins through a port makes: one event of the machine a pin, each with its reply.
use Rattle.std.specs.Prelude.{◌≡◌, ℕ, Bool, true, false, count_by, List, ◌++◌, map, Result, Ok, Err}
use Rattle.pin_set.specs.declared.table_pin.TablePin.{TablePin}
use Rattle.lb_desk_law.specs.SetPins.{AreSetsOf}
use Rattle.lb_desk_model.specs.declared.entry.Entry.{Entry}
use Rattle.lb_desk_model.specs.declared.event.SetPin.{SetPin}
use Rattle.lb_desk_model.specs.declared.reply.Reply.{Reply}
use Rattle.lb_desk_model.specs.declared.reply.Reply.TheVariants.{Pinned}
use Rattle.lb_desk_model.specs.Sets.{set_pin}
use Rattle.lb_desk_ports.specs.declared.refused.Refused.{Refused}

-- the pins as they are asked for
abbrev pub rows_of : List SetPin → List TablePin
rows_of pins = map (λ s. set_pin s s.moment) pins

-- the pin is in the table, at its server
abbrev pub is_pinned : Reply → Bool
is_pinned (Pinned how) = true
is_pinned reply = false

-- these pins were set, in their order, and so many of them were answered that they are pinned
pub record WereSet (pins : List SetPin) (pinned : ℕ) (old new : List Entry) : Type 0 where
  pub made : List Entry
  pub entries : new ≡ old ++ made
  pub sets : AreSetsOf (rows_of pins) made
  pub count : pinned ≡ count_by (λ e. is_pinned e.reply) made

-- all pins were set, or those before the call that was refused
abbrev pub PutsAll : List SetPin → List Entry → List Entry → Result ℕ Refused → Type 0
PutsAll pins old new (Ok pinned) = WereSet pins pinned old new
PutsAll pins old new (Err refused) = (front : List SetPin) × (rest : List SetPin) × (pinned : ℕ) × (pins ≡ front ++ rest) × WereSet front pinned old new
