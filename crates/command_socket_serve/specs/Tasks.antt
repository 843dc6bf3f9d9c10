-- What the command socket alone is asked of a backend: the pins of a key, the sheet of the moment, and a plan that isn't made. `show
-- table`, `clear table` and `set table` of a key are as in HAProxy's Management Guide 2.8, section 9.3. There a key has one entry. Here
-- it has a pin for each set of wanted servers, and what is asked of the key is asked of each of them. All texts are our own.
use Rattle.std.specs.Prelude.{◌≡◌, ◌⊎◌, ℕ, Bool, true, false, List, [], ◌∷◌, ◌++◌, filter, map, length, Option, Some, None, Result, Ok, Err, codes, refl, if◌then◌else◌}
use Rattle.std.specs.Option.{option_map}
use Rattle.std.proofs.lemmas.Bool.{leb-true}
use Rattle.lb_types.specs.declared.limits.TheConstants.{MAX_COST}
use Rattle.lb_acl.specs.declared.key.TableType.{TableType}
use Rattle.pin_set.specs.declared.pin.PinId.{PinId}
use Rattle.pin_set.specs.declared.pin_key.PinKey.{PinKey}
use Rattle.pin_set.specs.contracts.pin_key.PinKeyPartialEq.TheImpl as key_eq
use Rattle.pin_set.specs.declared.table_pin.TablePin.{TablePin}
use Rattle.pin_set.specs.declared.totals.Score.{Score}
use Rattle.dual_cert_plan.specs.Plans.{PlanParts}
use Rattle.dual_cert_plan.specs.Sheets.{SheetParts}
use Rattle.dual_cert_sheet.specs.SheetSpellings.{sheet_spelling}
use Rattle.cert_check.specs.Verdict.{verdict}
use Rattle.lb_cli_tables.specs.Tables.{tables_text}
use Rattle.command_socket_words.specs.Faults.{fault_text}
use Rattle.command_socket_words.specs.declared.fault.CommandFault.TheVariants.{UnknownCommand}
use Rattle.command_socket_keys.specs.Keys.{key_in}
use Rattle.command_socket.specs.declared.socket.BackendTask.{BackendTask}
use Rattle.command_socket.specs.declared.socket.BackendTask.TheVariants as Task
use Rattle.command_socket.specs.declared.socket.PinChange.{PinChange}
use Rattle.command_socket.specs.declared.socket.PinChange.TheVariants as Pins
use Rattle.lb_desk_model.specs.declared.event.Event.{Event}
use Rattle.lb_desk_model.specs.declared.event.Event.TheVariants as Does
use Rattle.lb_desk_model.specs.declared.event.SetPin.{SetPin}
use Rattle.lb_desk_model.specs.declared.reply.Reply.{Reply}
use Rattle.lb_desk_model.specs.declared.reply.Reply.TheVariants.{Pinned, Cleared}
use Rattle.lb_desk_ports.specs.declared.refused.Refused.{Refused}
use Rattle.lb_desk_ports.specs.declared.refused.Refused.TheVariants.{Memory}
use Rattle.lb_desk_ports.specs.Movers.{snapshot_entries}
use Rattle.lb_desk_steer.specs.Steering.{AddsAt, KeepsSights, SeesPins}
use Rattle.lb_answers.specs.declared.named_backend.NamedBackend.{NamedBackend}
use Rattle.lb_answers.specs.Replies.{reply_text}
use Rattle.lb_answers.specs.Scores.{score_text}
use Rattle.lb_answers.specs.Tables.{rows_text}
use Rattle.command_socket_serve.specs.Desks.{DeskSeen, LooksAt}
use Rattle.command_socket_serve.specs.Refusals.{refused_line}

-- ---- the pins of a key

-- the pin has the key, by `==`
abbrev pub has_key : PinKey → TablePin → Bool
has_key key p = (key_eq.ghosts).eq p.pin.id.key key

abbrev pub of_key : PinKey → List TablePin → List TablePin
of_key key pins = filter (has_key key) pins

-- the type of the backend's table
abbrev pub type_of : NamedBackend → Option TableType
type_of named = option_map (λ table. table.key_type) named.table

-- nothing is asked of the desk
abbrev pub OnlySays : List ℕ → DeskSeen → DeskSeen → List ℕ → Type 0
OnlySays line old new text = (new ≡ old) × (text ≡ line)

-- the pins of the key at a moment after all events that were made at this desk. The history at that moment is the desk's last sight
abbrev pub ShowsKey : NamedBackend → PinKey → DeskSeen → DeskSeen → List ℕ → Type 0
ShowsKey named key old new text =
    (pins : List TablePin) × SeesPins old.backend old.entries old.sights new.sights pins × LooksAt old new
    × (text ≡ rows_text named.name named.servers.now named.table (length pins) (of_key key pins))

-- ---- the pins of a key, changed

-- the pin of the name, at the server. It costs 1 where it is made
abbrev pub pin_at : PinId → ℕ → ℕ → SetPin
pin_at name server moment = record {
  name = name;
  server = server;
  cost = 1;
  moment = moment;
  cost_from = leb-true 1 1 refl;
  cost_to = leb-true 1 MAX_COST refl;
}

-- the event that changes the pin of the name
abbrev pub event_of : PinChange → PinId → ℕ → Event
event_of Pins.Clear name moment = Does.Clear name
event_of (Pins.Set server) name moment = Does.Set (pin_at name server moment)

-- the server that the change names
abbrev pub server_of : PinChange → Option ℕ
server_of Pins.Clear = None
server_of (Pins.Set server) = Some server

-- the pin is gone, or stands where it is to stand
abbrev pub is_changed : Reply → Bool
is_changed (Pinned how) = true
is_changed Cleared = true
is_changed _ = false

-- a change that is made has no line
abbrev pub pin_text : NamedBackend → PinChange → Result Reply Refused → List ℕ
pin_text named change (Ok reply) = if is_changed reply then [] else reply_text named.servers.now (server_of change) reply ++ codes "\n"
pin_text named change (Err refused) = refused_line refused

-- the pin of the name is changed, in an event with an expiry of the same moment before it
pub record ChangesPin (named : NamedBackend) (change : PinChange) (moment : ℕ) (name : PinId) (old new : DeskSeen) (text : List ℕ) : Type 0 where
  pub reply : Result Reply Refused
  pub adds : AddsAt moment (event_of change name moment) old.entries new.entries reply
  pub planned_now : new.planned_now ≡ old.planned_now
  pub backend : new.backend ≡ old.backend
  pub sights : KeepsSights old.sights new.sights
  pub text_is : text ≡ pin_text named change reply

-- the pins of the names are changed, one after another
abbrev pub ChangesEach : NamedBackend → PinChange → ℕ → List PinId → DeskSeen → DeskSeen → List ℕ → Type 0
ChangesEach named change moment [] old new text = (new ≡ old) × (text ≡ [])
ChangesEach named change moment (name ∷ more) old new text =
    (between : DeskSeen) × (first : List ℕ) × (rest : List ℕ) × (text ≡ first ++ rest)
    × ChangesPin named change moment name old between first × ChangesEach named change moment more between new rest

abbrev pub names_of : List TablePin → List PinId
names_of pins = map (λ p. p.pin.id) pins

-- the names of the key's pins. A key without a pin has the name that wants no servers
abbrev pub names_for : PinKey → List TablePin → List PinId
names_for key [] = record { key = key; want = 0 } ∷ []
names_for key (p ∷ more) = names_of (p ∷ more)

-- the pins are changed that the key has at a moment after all events that were made at this desk, as it was seen at that moment
abbrev pub ChangesKey : NamedBackend → PinChange → ℕ → PinKey → DeskSeen → DeskSeen → List ℕ → Type 0
ChangesKey named change moment key old new text =
    (pins : List TablePin) × (mid : DeskSeen) × SeesPins old.backend old.entries old.sights mid.sights pins × LooksAt old mid
    × ChangesEach named change moment (names_for key (of_key key pins)) mid new text

-- what is asked of the key that a word is. A word that is none is a fault
abbrev pub OfKey : Option PinKey → (PinKey → DeskSeen → DeskSeen → List ℕ → Type 0) → DeskSeen → DeskSeen → List ℕ → Type 0
OfKey None Is old new text = OnlySays (fault_text UnknownCommand ++ codes "\n") old new text
OfKey (Some key) Is old new text = Is key old new text

-- the same, or there is not memory enough
abbrev pub OfWord : NamedBackend → List ℕ → (PinKey → DeskSeen → DeskSeen → List ℕ → Type 0) → DeskSeen → DeskSeen → List ℕ → Type 0
OfWord named word Is old new text =
    (LooksAt old new × (text ≡ refused_line Memory)) ⊎ OfKey (key_in (type_of named) word) Is old new text

-- ---- sheets and plans

-- a sheet was taken, and the text is so for it
pub record TakesSheet (IsText : Result SheetParts Refused → List ℕ → Type 0) (old new : DeskSeen) (text : List ℕ) : Type 0 where
  pub answer : Result SheetParts Refused
  pub entries : new.entries ≡ old.entries ++ snapshot_entries answer
  pub planned_now : new.planned_now ≡ old.planned_now
  pub backend : new.backend ≡ old.backend
  pub text_is : IsText answer text

-- the sheet, as it is spelled
abbrev pub IsSheet : Result SheetParts Refused → List ℕ → Type 0
IsSheet (Ok sheet) text = text ≡ sheet_spelling sheet
IsSheet (Err refused) text = text ≡ refused_line refused

-- a plan that the check accepts for the sheet: its score, and then its tables
pub record IsPlanOf (sheet : SheetParts) (text : List ℕ) : Type 0 where
  pub plan : PlanParts
  pub score : Score
  pub accepted : verdict sheet plan ≡ Ok score
  pub text_is : text ≡ (score_text score ++ codes "\n") ++ tables_text plan

abbrev pub IsDryPlan : Result SheetParts Refused → List ℕ → Type 0
IsDryPlan (Ok sheet) text = IsPlanOf sheet text ⊎ (text ≡ refused_line Memory)
IsDryPlan (Err refused) text = text ≡ refused_line refused

-- ---- all of them

-- what a task comes to at the desk of the backend
abbrev pub Asks : NamedBackend → ℕ → BackendTask → DeskSeen → DeskSeen → List ℕ → Type 0
Asks named moment (Task.ShowKey word) old new text = OfWord named word (ShowsKey named) old new text
Asks named moment (Task.ChangeKey word change) old new text = OfWord named word (ChangesKey named change moment) old new text
Asks named moment Task.ShowSheet old new text = TakesSheet IsSheet old new text
Asks named moment Task.PlanDry old new text = TakesSheet IsDryPlan old new text
