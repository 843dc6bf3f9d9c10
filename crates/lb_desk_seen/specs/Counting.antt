-- What a desk counts fits into 64 bits, where it takes no event at which it is worn.
use Rattle.std.specs.Prelude.{◌≡◌, ◌↔◌, ℕ, ◌+◌, ◌≤◌, ◌^◌, true, false, List, [], ◌∷◌, length}
use Rattle.lb_desk_model.specs.declared.entry.Entry.{Entry}
use Rattle.lb_desk_model.specs.declared.event.Event.{Event}
use Rattle.lb_desk_model.specs.declared.event.Event.TheVariants.{Close}
use Rattle.lb_desk_model.specs.declared.reply.Reply.{Reply}
use Rattle.lb_desk_model.specs.Backends.{BackendParts}
use Rattle.lb_desk_model.specs.Histories.{History}
use Rattle.lb_desk_model.specs.Seen.{Seen, seen}
use Rattle.lb_desk_model.specs.States.{State, opening}
use Rattle.lb_desk_model.specs.Steps.{Step}
use Rattle.lb_desk_model.specs.Worn.{is_worn, open_at, open_connections, uses}

-- the event ends a connection of a server where one is open
abbrev pub EndsOne : Seen → Event → Type 0
EndsOne shown event = (server : ℕ) × (event ≡ Close server) × (1 ≤ open_at shown server)

-- a desk is worn exactly where entries and open connections have come to 2^63 and the event doesn't end one of these
abbrev pub WornIsExact : Type 0
WornIsExact = (shown : Seen) (entries : ℕ) (event : Event)
    → (is_worn shown entries event ≡ true) ↔ ((2 ^ 63 ≤ entries + open_connections shown) × (EndsOne shown event → ⊥))

-- in every history no more steps change the view, no more steps use a pin and no more connections are open than there are entries
pub record AreFew (entries : List Entry) (state : State) : Type 0 where
  pub versions : state.version ≤ length entries
  pub uses : uses entries ≤ length entries
  pub connections : open_connections (seen state) ≤ length entries

abbrev pub CountsAreFew : Type 0
CountsAreFew = (backend : BackendParts) (entries : List Entry) (state : State)
    → History (opening backend) entries state → AreFew entries state

-- behind so many entries, the numbers that a desk keeps are in their ranges
pub record Fits (entries : ℕ) (shown : Seen) : Type 0 where
  pub few : shown.version ≤ entries
  pub version : shown.version ≤ 2 ^ 63
  pub room : entries + open_connections shown ≤ 2 ^ 63 + 1

-- a step that isn't worn leaves them there
abbrev pub StepsFit : Type 0
StepsFit = (old : State) (event : Event) (reply : Reply) (new : State) (entries : ℕ) → Step old event reply new
    → is_worn (seen old) entries event ≡ false → Fits entries (seen old) → Fits (entries + 1) (seen new)

-- none of the events was taken where the desk is worn; so many entries stood before them
abbrev pub NoneIsWorn : (before : ℕ) (old : State) (entries : List Entry) (new : State) → History old entries new → Type 0
NoneIsWorn before old [] new history = Unit {0}
NoneIsWorn before old (entry ∷ entries) new history =
    (is_worn (seen old) before entry.event ≡ false) × NoneIsWorn (before + 1) history.0 entries new history.2

-- in a history without such an event all of them are in their ranges
abbrev pub HistoriesFit : Type 0
HistoriesFit = (backend : BackendParts) (entries : List Entry) (state : State) → (history : History (opening backend) entries state)
    → NoneIsWorn 0 (opening backend) entries state history → Fits (length entries) (seen state)
