-- A backend's day, as far as a script has come.
use Rattle.std.specs.Prelude.{◌≡◌, ℕ, ◌-◌, ◌==◌, List, [], ◌∷◌, ◌++◌, Option, None, slice_get, if◌then◌else◌}
use Rattle.dual_cert_plan.specs.Sheets.{SheetParts}
use Rattle.lb_desk_model.specs.declared.entry.Entry.{Entry}
use Rattle.lb_desk_model.specs.declared.reply.Reply.{Reply}
use Rattle.lb_desk_model.specs.declared.reply.Reply.TheVariants.{Sheet}
use Rattle.lb_desk_step.specs.Desk.{DeskView, opening_desk}
use Rattle.lb_replay.specs.Farms.{FarmView}

pub record DayView : Type 0 where
  -- the backend as it runs
  pub desk : DeskView
  -- the sheets of the snapshots so far, in their order
  pub sheets : List SheetParts

-- the day before the first line
abbrev pub opening_day : FarmView → DayView
opening_day farm = record { desk = opening_desk farm.backend farm.own.journal; sheets = [] }

-- the sheet of the snapshot of this number, from 1 on
abbrev pub kept_sheet : List SheetParts → ℕ → Option SheetParts
kept_sheet sheets number = if number == 0 then None else slice_get sheets (number - 1)

-- a snapshot's sheet is kept
abbrev pub with_reply : List SheetParts → Reply → List SheetParts
with_reply sheets (Sheet sheet) = sheets ++ sheet ∷ []
with_reply sheets reply = sheets

-- what an answer to a piece of the script comes to
pub record Outcome : Type 0 where
  -- what is added to the log
  pub entries : List Entry
  -- what is printed
  pub text : List ℕ
  -- the day behind it
  pub day : DayView

-- the text is printed, and nothing else happens
pub record IsOnlyText (old : DayView) (said : List ℕ) (outcome : Outcome) : Type 0 where
  pub text : outcome.text ≡ said
  pub entries : outcome.entries ≡ []
  pub day : outcome.day ≡ old
