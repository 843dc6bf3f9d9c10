-- What an operator's call makes: an event of the machine in `lb_desk_model`, with its reply. And of which moment in a backend's
-- history a copy is. Our own words.
use Rattle.std.specs.Prelude.{◌≡◌, ◌⊎◌, ℕ, List, [], ◌∷◌, ◌++◌, Result, Ok, Err}
use Rattle.pin_set.specs.declared.table_pin.TablePin.{TablePin}
use Rattle.server_state.specs.declared.change.Change.{Change}
use Rattle.lb_desk_model.specs.declared.entry.Entry.{Entry}
use Rattle.lb_desk_model.specs.declared.event.Event.{Event}
use Rattle.lb_desk_model.specs.declared.event.Event.TheVariants.{Command}
use Rattle.lb_desk_model.specs.declared.reply.Reply.{Reply}
use Rattle.lb_desk_model.specs.Backends.{BackendParts, OpenedBackend}
use Rattle.lb_desk_model.specs.Histories.{History}
use Rattle.lb_desk_model.specs.States.{State, opening}
use Rattle.lb_desk_ports.specs.declared.refused.Refused.{Refused}
use Rattle.lb_desk_ports.specs.Calls.{entry}
use Rattle.lb_desk_ports.specs.Ports.{IsExpiry}
use Rattle.lb_desk_tail.specs.Tail.{IsTailOf}

-- the entries that commanding the change adds
abbrev pub commanding_entries : Change → Result Reply Refused → List Entry
commanding_entries change (Ok reply) = entry (Command change) reply ∷ []
commanding_entries change (Err refused) = []

-- Making the event at this moment adds the entry of an expiry at the moment, and then that of the event. Where the second was refused,
-- the first stands
abbrev pub AddsAt : ℕ → Event → List Entry → List Entry → Result Reply Refused → Type 0
AddsAt moment event old new (Ok reply) =
    (expiry : List Entry) × IsExpiry moment expiry × (new ≡ old ++ expiry ++ entry event reply ∷ [])
AddsAt moment event old new (Err refused) =
    (new ≡ old) ⊎ ((expiry : List Entry) × IsExpiry moment expiry × (new ≡ old ++ expiry))

-- ---- copies

-- these entries are in the history, in their order, those of others between them
abbrev pub AreIn : List Entry → List Entry → Type 0
AreIn [] history = Unit {0}
AreIn (first ∷ rest) history = (before : List Entry) × (after : List Entry) × (history ≡ before ++ first ∷ after) × AreIn rest after

-- a moment in the history of a backend, from its opening on, after all of these entries
pub record Moment (backend : BackendParts) (made : List Entry) : Type 0 where
  pub history : List Entry
  pub state : State
  pub steps : History (opening backend) history state
  pub has : AreIn made history

-- these are the pins at such a moment
abbrev pub ArePinsAfter : OpenedBackend → List Entry → List TablePin → Type 0
ArePinsAfter backend made pins = (at : Moment backend.parts made) × (pins ≡ at.state.pins)

-- these entries are all that the journal keeps of the history at such a moment, and so many are before them
abbrev pub IsJournalAt : (backend : OpenedBackend) (made : List Entry) → Moment backend.parts made → ℕ → List Entry → Type 0
IsJournalAt backend made at first entries = IsTailOf at.history (record { capacity = backend.journal_size; first = first; entries = entries })

abbrev pub IsJournalAfter : OpenedBackend → List Entry → ℕ → List Entry → Type 0
IsJournalAfter backend made first entries = (at : Moment backend.parts made) × IsJournalAt backend made at first entries

-- ---- sights

-- the sights so far, and others after them
abbrev pub KeepsSights : List (List Entry) → List (List Entry) → Type 0
KeepsSights old new = (more : List (List Entry)) × (new ≡ old ++ more)

-- one sight more, of the history at such a moment, and these are the pins at that moment
abbrev pub SeesPins : OpenedBackend → List Entry → List (List Entry) → List (List Entry) → List TablePin → Type 0
SeesPins backend made old new pins = (at : Moment backend.parts made) × (new ≡ old ++ at.history ∷ []) × (pins ≡ at.state.pins)

-- one sight more, of the history at such a moment, and these entries are all that the journal keeps of it
abbrev pub SeesJournal : OpenedBackend → List Entry → List (List Entry) → List (List Entry) → ℕ → List Entry → Type 0
SeesJournal backend made old new first entries =
    (at : Moment backend.parts made) × (new ≡ old ++ at.history ∷ []) × IsJournalAt backend made at first entries
