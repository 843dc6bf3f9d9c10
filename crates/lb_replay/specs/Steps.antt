-- A replay as far as it has come. No public clause cites this module.
use Rattle.std.specs.Prelude.{◌≡◌, ℕ, ⊤, ◌+◌, Bool, true, false, List, [], ◌∷◌, Contains, Option, Some, None, length, map, slice_get}
use Rattle.std.specs.Io.KnownBytes.{Appends}
use Rattle.dual_cert_plan.specs.Sheets.{SheetParts}
use Rattle.lb_desk_model.specs.declared.entry.Entry.{Entry}
use Rattle.lb_desk_model.specs.declared.event.Event.TheVariants.{Snapshot}
use Rattle.lb_desk_model.specs.declared.reply.Reply.TheVariants.{Sheet}
use Rattle.lb_desk_law.specs.Worlds.{entry}
use Rattle.lb_desk_step.specs.Desk.{StandsAt}
use Rattle.lb_script.specs.declared.script_line.ScriptLine.{ScriptLine}
use Rattle.lb_replay_lines.specs.Readings.{ReadingView, IsReadWhole}
use Rattle.lb_replay.specs.declared.pieces.Piece.{Piece}
use Rattle.lb_replay.specs.declared.pieces.Piece.TheVariants.{End, Bad, Said}
use Rattle.lb_config.specs.ConfigViews.{ConfigView}
use Rattle.lb_replay.specs.Farms.{FarmView, IsFarmAt}
use Rattle.lb_replay.specs.Days.{DayView, Outcome, opening_day}
use Rattle.lb_replay.specs.Pieces.{AreCut, behind_piece, piece_at, said_by}
use Rattle.lb_replay.specs.Replays.{Answered, AreAnswered, IsReplay, Output, bad_line, day_behind, joined, line_count, log_of, text_of}

-- an outcome of this kind came, and its text went out
pub record Does (Is : Outcome → Type 0) (new : DayView) (before after : Option (List ℕ)) : Type 0 where
  pub outcome : Outcome
  pub is : Is outcome
  pub day : outcome.day ≡ new
  pub went : Appends before after outcome.text

-- ---- pieces

-- the next line says this
abbrev pub SaysNext : FarmView → Option (List (List ℕ)) → Option ScriptLine → Type 0
SaysNext farm None said = ⊤
SaysNext farm (Some lines) said = (line : List ℕ) × (more : List (List ℕ)) × (lines ≡ line ∷ more) × (said_by farm line ≡ said)

-- the next piece was read, and its first line says this
pub record HasPiece (farm : FarmView) (lines : List (List ℕ)) (old : ReadingView) (said : ScriptLine) (new : ReadingView) : Type 0 where
  pub line : List ℕ
  pub more : List (List ℕ)
  pub split : lines ≡ line ∷ more
  pub says : said_by farm line ≡ Some said
  pub left : new.left ≡ Some (behind_piece farm line more)
  pub piece : new.piece ≡ joined (piece_at farm line more)
  pub count : new.count ≡ old.count + length (piece_at farm line more)

abbrev pub TakesPiece : FarmView → Option (List (List ℕ)) → ReadingView → ScriptLine → ReadingView → Type 0
TakesPiece farm None old said new = ⊤
TakesPiece farm (Some lines) old said new = HasPiece farm lines old said new

-- what was read, by what is next
abbrev pub ReadsPiece : FarmView → ReadingView → ReadingView → Piece → Type 0
ReadsPiece farm old new End = IsReadWhole old.left
ReadsPiece farm old new Bad = SaysNext farm old.left None × (new.first ≡ old.count + 1)
ReadsPiece farm old new (Said said) = TakesPiece farm old.left old said new × (new.first ≡ old.count + 1)

-- ---- the whole

-- each of the sheets was given by a snapshot of the log
abbrev pub AreGiven : List Entry → List SheetParts → Type 0
AreGiven log sheets = (place : ℕ) (sheet : SheetParts) → slice_get sheets place ≡ Some sheet → Contains log (entry Snapshot (Sheet sheet))

-- the lines so far are answered, and the others are left
pub record HasGone (farm : FarmView) (all : List (List ℕ)) (lines : ReadingView) (day : DayView) (before after : Option (List ℕ)) : Type 0 where
  pub done : List Answered
  pub left : List (List ℕ)
  pub now : lines.left ≡ Some left
  pub cut : AreCut farm all (map (λ a. a.lines) done) left
  pub answered : AreAnswered farm (opening_day farm) done
  pub arrived : day_behind (opening_day farm) done ≡ day
  pub stands : StandsAt farm.backend (log_of done) day.desk
  pub given : AreGiven (log_of done) day.sheets
  pub went : Appends before after (text_of done)
  pub count : lines.count ≡ line_count done

abbrev pub GoneSoFar : FarmView → Option (List (List ℕ)) → ReadingView → DayView → Option (List ℕ) → Option (List ℕ) → Type 0
GoneSoFar farm None lines day before after = ⊤
GoneSoFar farm (Some all) lines day before after = HasGone farm all lines day before after

-- what is told of a bad line of this number, or of none
abbrev pub complaint : Option ℕ → List ℕ
complaint None = []
complaint (Some number) = bad_line number

abbrev pub is_whole : Option ℕ → Bool
is_whole None = true
is_whole (Some number) = false

-- the script was replayed, up to a bad line of this number if there is one
pub record Replays (farm : FarmView) (script : List ℕ) (bad : Option ℕ) (before after : Option (List ℕ)) : Type 0 where
  pub output : Output
  pub is : IsReplay farm script output
  pub out : Appends before after output.out
  pub err : output.err ≡ complaint bad
  pub whole : output.is_whole ≡ is_whole bad

-- the same at some farm of the configuration's backend at the place
pub record ReplaysFarm (config : ConfigView) (place : ℕ) (script : List ℕ) (bad : Option ℕ) (before after : Option (List ℕ)) : Type 0 where
  pub farm : FarmView
  pub at : IsFarmAt config place farm
  pub replays : Replays farm script bad before after
