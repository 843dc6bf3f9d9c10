-- The words of each reply of a backend. A refusal begins with its number.
use Rattle.std.specs.Prelude.{ℕ, Option, List, ◌++◌, sum_by, codes}
use Rattle.rise_fall.specs.declared.flip.Flip.TheVariants.{Stays, WentUp, WentDown}
use Rattle.server_state.specs.declared.checked.Checked.{Checked}
use Rattle.server_state.specs.declared.checked.Checked.TheVariants as Check
use Rattle.dual_cert_plan.specs.Sheets.{SheetParts}
use Rattle.cert_check.specs.Faults.{fault_text}
use Rattle.lb_desk_model.specs.declared.backend.BackendServer.{BackendServer}
use Rattle.lb_desk_model.specs.declared.reply.PinnedAs.{PinnedAs}
use Rattle.lb_desk_model.specs.declared.reply.PinnedAs.TheVariants as Put
use Rattle.lb_desk_model.specs.declared.reply.ServedAs.{ServedAs}
use Rattle.lb_desk_model.specs.declared.reply.ServedAs.TheVariants.{Kept, Moved, Made, Loose}
use Rattle.lb_desk_model.specs.declared.reply.Refusal.{Refusal}
use Rattle.lb_desk_model.specs.declared.reply.Refusal.TheVariants.{NoSuchServer, OutOfRange, NotChecked, Full, NotServing, NotOpen, TableFull, Stale, Bad, NoServer}
use Rattle.lb_desk_model.specs.declared.reply.Reply.{Reply}
use Rattle.lb_desk_model.specs.declared.reply.Reply.TheVariants.{Served, Pinned, NoTable, Cleared, NoPin, Opened, Closed, Expired, Checked as CheckTaken, Done, Sheet, Installed, Refused}
use Rattle.lb_answers.specs.Names.{labelled, server_word, server_behind}
use Rattle.lb_answers.specs.Scores.{score_text}

abbrev pub refusal_text : Refusal → List ℕ
refusal_text NoSuchServer = codes "10 NoSuchServer"
refusal_text OutOfRange = codes "11 OutOfRange"
refusal_text NotChecked = codes "12 NotChecked"
refusal_text Full = codes "30 Full"
refusal_text NotServing = codes "31 NotServing"
refusal_text NotOpen = codes "32 NotOpen"
refusal_text TableFull = codes "60 TableFull"
refusal_text Stale = codes "70 Stale"
refusal_text (Bad fault) = codes "71 Bad " ++ fault_text fault
refusal_text NoServer = codes "80 NoServer"

abbrev pub served_word : ServedAs → List ℕ
served_word Kept = codes " kept"
served_word Moved = codes " moved"
served_word Made = codes " made"
served_word Loose = codes " loose"

abbrev pub pinned_word : PinnedAs → List ℕ
pinned_word Put.Kept = codes " kept"
pinned_word Put.Moved = codes " moved"
pinned_word Put.Made = codes " made"

abbrev pub pinned_text : List BackendServer → Option ℕ → PinnedAs → List ℕ
pinned_text servers asked pinned_as = codes "pinned" ++ server_behind servers asked ++ pinned_word pinned_as

abbrev pub check_text : Checked → List ℕ
check_text (Check.Took Stays) = codes "check stays"
check_text (Check.Took WentUp) = codes "check up"
check_text (Check.Took WentDown) = codes "check down"
check_text Check.Ignored = codes "check ignored"

-- the version of a sheet, and how many pins it has
abbrev pub sheet_text : SheetParts → List ℕ
sheet_text sheet = labelled (codes "sheet version ") sheet.version ++ labelled (codes " pins ") (sum_by (λ g. g.count) sheet.groups)

-- a reply to an event that names this server, or none
unfoldable pub reply_text : List BackendServer → Option ℕ → Reply → List ℕ
reply_text servers asked (Served server served_as) = codes "served " ++ server_word servers server ++ served_word served_as
reply_text servers asked (Pinned pinned_as) = pinned_text servers asked pinned_as
reply_text servers asked NoTable = codes "no table"
reply_text servers asked Cleared = codes "cleared"
reply_text servers asked NoPin = codes "no pin"
reply_text servers asked Opened = codes "opened" ++ server_behind servers asked
reply_text servers asked Closed = codes "closed" ++ server_behind servers asked
reply_text servers asked (Expired pins) = labelled (codes "expired ") pins
reply_text servers asked (CheckTaken checked) = check_text checked
reply_text servers asked Done = codes "done"
reply_text servers asked (Sheet sheet) = sheet_text sheet
reply_text servers asked (Installed score) = codes "installed " ++ score_text score
reply_text servers asked (Refused refusal) = refusal_text refusal
