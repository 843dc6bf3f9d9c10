-- What the calls of a port make: events of the machine in `lb_desk_model`, each with its reply.
use Rattle.std.specs.Prelude.{◌≡◌, ◌⊎◌, ℕ, Bool, ⊤, List, [], ◌∷◌, ◌++◌, Result, Ok, Err}
use Rattle.lb_desk_model.specs.declared.entry.Entry.{Entry}
use Rattle.lb_desk_model.specs.declared.event.Event.TheVariants.{Serve, Set, Open, Close, Expire, Check}
use Rattle.lb_desk_model.specs.declared.event.Request.{Request}
use Rattle.lb_desk_model.specs.declared.event.SetPin.{SetPin}
use Rattle.lb_desk_model.specs.declared.reply.Refusal.TheVariants as refusal
use Rattle.lb_desk_model.specs.declared.reply.Reply.{Reply}
use Rattle.lb_desk_model.specs.declared.reply.Reply.TheVariants as reply
use Rattle.lb_desk_ports.specs.Calls.{entry}
use Rattle.lb_desk_ports.specs.declared.refused.Refused.{Refused}
use Rattle.lb_desk_ports.specs.declared.replies.Asked.{Asked}
use Rattle.lb_desk_ports.specs.declared.replies.Asked.TheVariants as asked
use Rattle.lb_desk_ports.specs.declared.replies.Pinning.{Pinning}
use Rattle.lb_desk_ports.specs.declared.replies.Pinning.TheVariants as pinning
use Rattle.lb_desk_ports.specs.declared.replies.Opening.{Opening}
use Rattle.lb_desk_ports.specs.declared.replies.Opening.TheVariants as opening
use Rattle.lb_desk_ports.specs.declared.replies.Shut.{Shut}
use Rattle.lb_desk_ports.specs.declared.replies.Shut.TheVariants as shut
use Rattle.lb_desk_ports.specs.declared.replies.Filed.{Filed}
use Rattle.lb_desk_ports.specs.declared.replies.Filed.TheVariants as filed

-- ---- the replies

abbrev pub asked_reply : Asked → Reply
asked_reply (asked.Served server how) = reply.Served server how
asked_reply asked.NoServer = reply.Refused refusal.NoServer
asked_reply asked.NoSuchServer = reply.Refused refusal.NoSuchServer

abbrev pub pinning_reply : Pinning → Reply
pinning_reply (pinning.Pinned how) = reply.Pinned how
pinning_reply pinning.NoTable = reply.NoTable
pinning_reply pinning.NoSuchServer = reply.Refused refusal.NoSuchServer
pinning_reply pinning.TableFull = reply.Refused refusal.TableFull

abbrev pub opening_reply : {S : Type 0} → Opening S → Reply
opening_reply (opening.Opened slot) = reply.Opened
opening_reply opening.Full = reply.Refused refusal.Full
opening_reply opening.NotServing = reply.Refused refusal.NotServing

abbrev pub shut_reply : Shut → Reply
shut_reply shut.Closed = reply.Closed
shut_reply shut.NotOpen = reply.Refused refusal.NotOpen

abbrev pub filed_reply : Filed → Reply
filed_reply (filed.Checked checked) = reply.Checked checked
filed_reply filed.NoSuchServer = reply.Refused refusal.NoSuchServer
filed_reply filed.NotChecked = reply.Refused refusal.NotChecked

-- ---- the entries

-- pins went that weren't used for long at this moment: the entry of that, whatever their number
abbrev pub IsExpiry : ℕ → List Entry → Type 0
IsExpiry moment entries = (count : ℕ) × (entries ≡ entry (Expire moment) (reply.Expired count) ∷ [])

-- Asking for a request's server adds the entry of an expiry at the request's moment, and then that of the request. Where
-- the second was refused, the first stands
abbrev pub AddsAsk : Request → List Entry → List Entry → Result Asked Refused → Type 0
AddsAsk request old new (Ok answer) =
    (expiry : List Entry) × IsExpiry request.moment expiry
    × (new ≡ old ++ expiry ++ entry (Serve request) (asked_reply answer) ∷ [])
AddsAsk request old new (Err refused) =
    (new ≡ old) ⊎ ((expiry : List Entry) × IsExpiry request.moment expiry × (new ≡ old ++ expiry))

-- the entries that setting a pin adds
abbrev pub pinning_entries : SetPin → Result Pinning Refused → List Entry
pinning_entries pin (Ok answer) = entry (Set pin) (pinning_reply answer) ∷ []
pinning_entries pin (Err refused) = []

-- the entries that opening a connection to the server adds
abbrev pub opening_entries : {S : Type 0} → ℕ → Result (Opening S) Refused → List Entry
opening_entries server (Ok answer) = entry (Open server) (opening_reply answer) ∷ []
opening_entries server (Err refused) = []

-- a connection was opened, and of its slot this holds; else nothing is said
abbrev pub IfOpened : {S : Type 0} → Result (Opening S) Refused → (S → Type 0) → Type 0
IfOpened (Ok (opening.Opened slot)) holds = holds slot
IfOpened (Ok opening.Full) holds = ⊤
IfOpened (Ok opening.NotServing) holds = ⊤
IfOpened (Err refused) holds = ⊤

-- the entries that giving back a connection to the server adds
abbrev pub shutting_entries : ℕ → Result Shut Refused → List Entry
shutting_entries server (Ok answer) = entry (Close server) (shut_reply answer) ∷ []
shutting_entries server (Err refused) = []

-- the entries that filing the result of a check of the server adds
abbrev pub filing_entries : ℕ → Bool → Result Filed Refused → List Entry
filing_entries server ok (Ok answer) = entry (Check server ok) (filed_reply answer) ∷ []
filing_entries server ok (Err refused) = []
