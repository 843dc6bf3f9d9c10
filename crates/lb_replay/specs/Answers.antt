-- What is answered to each thing that a script asks for. All texts are those of `lb_answers`.
use Rattle.std.specs.Prelude.{◌≡◌, ℕ, ◌⊎◌, Bool, true, false, is_none, ◌==◌, List, [], ◌∷◌, ◌++◌, Contains, Option, Some, None, Result, Ok, Err, codes, slice_get, if◌then◌else◌}
use Rattle.pin_set.specs.declared.totals.Score.{Score}
use Rattle.dual_cert_plan.specs.Plans.{PlanParts}
use Rattle.dual_cert_plan.specs.Sheets.{SheetParts}
use Rattle.dual_cert.specs.TextFault.{TextFault}
use Rattle.dual_cert.specs.Faults.{fault_text}
use Rattle.dual_cert.specs.PlanTexts.{plan_of_text}
use Rattle.cert_check.specs.declared.fault.CheckFault.{CheckFault}
use Rattle.command_socket_words.specs.Faults.{fault_text as command_fault_text}
use Rattle.command_socket_words.specs.declared.command.Shown.{Shown}
use Rattle.command_socket_words.specs.declared.command.Shown.TheVariants as Show
use Rattle.lb_config.specs.ConfigViews.{BackendView}
use Rattle.lb_desk_model.specs.declared.event.Event.{Event}
use Rattle.lb_desk_model.specs.declared.event.Event.TheVariants.{Snapshot, Install}
use Rattle.lb_desk_model.specs.declared.reply.Refusal.TheVariants.{Bad}
use Rattle.lb_desk_model.specs.declared.reply.Reply.{Reply}
use Rattle.lb_desk_model.specs.declared.reply.Reply.TheVariants.{Sheet, Installed, Refused}
use Rattle.lb_desk_law.specs.Worlds.{entry}
use Rattle.lb_desk_ports.specs.Movers.{IsPlanFor}
use Rattle.lb_desk_step.specs.Desk.{DeskView, Takes, is_worn_for}
use Rattle.lb_desk_step.specs.Planning.{PlansNow, is_worn_for_two}
use Rattle.lb_answers.specs.Events.{asked_server}
use Rattle.lb_answers.specs.Journals.{journal_text, last_installed, plan_text}
use Rattle.lb_answers.specs.Replies.{reply_text}
use Rattle.lb_answers.specs.Tables.{table_text}
use Rattle.lb_script.specs.declared.script_line.ScriptLine.{ScriptLine}
use Rattle.lb_script.specs.declared.script_line.ScriptLine.TheVariants as Says
use Rattle.lb_replay.specs.Farms.{FarmView, table_of}
use Rattle.lb_replay.specs.Days.{DayView, Outcome, IsOnlyText, kept_sheet, with_reply}

-- the line of a reply to an event that names this server, or none
abbrev pub reply_line : FarmView → Option ℕ → Reply → List ℕ
reply_line farm asked reply = reply_text farm.backend.servers asked reply ++ codes "\n"

-- the line where the backend takes no event more
abbrev pub worn_line : List ℕ
worn_line = codes "81 Worn\n"

-- ---- events

-- the event is one step of the backend, with this reply, and is journalled
pub record Took (farm : FarmView) (old : DayView) (event : Event) (reply : Reply) (outcome : Outcome) : Type 0 where
  pub takes : Takes old.desk event reply outcome.day.desk
  pub sheets : outcome.day.sheets ≡ with_reply old.sheets reply
  pub entries : outcome.entries ≡ entry event reply ∷ []
  pub text : outcome.text ≡ reply_line farm (asked_server event) reply

-- the event is taken, or the backend is worn
abbrev pub AnswersEvent : FarmView → DayView → Event → Outcome → Type 0
AnswersEvent farm old event outcome =
    ((reply : Reply) × Took farm old event reply outcome)
    ⊎ ((is_worn_for old.desk event ≡ true) × IsOnlyText old worn_line outcome)

-- ---- plans

-- a plan for the sheet of what is now is installed: two events in one go
pub record Planned (farm : FarmView) (old : DayView) (outcome : Outcome) : Type 0 where
  pub score : Score
  pub plans : PlansNow old.desk score outcome.day.desk
  pub sheets : outcome.day.sheets ≡ old.sheets
  pub entries : outcome.entries ≡ entry Snapshot (Sheet plans.sheet) ∷ entry (Install plans.plan) (Installed score) ∷ []
  pub text : outcome.text ≡ reply_line farm None (Installed score)

abbrev pub AnswersPlanNow : FarmView → DayView → Outcome → Type 0
AnswersPlanNow farm old outcome =
    Planned farm old outcome ⊎ ((is_worn_for_two old.desk ≡ true) × IsOnlyText old worn_line outcome)

-- a plan for the sheet, which the check accepts for it, is handed in
abbrev pub AnswersInstall : FarmView → DayView → Option SheetParts → Outcome → Type 0
AnswersInstall farm old None outcome = ⊥
AnswersInstall farm old (Some sheet) outcome = (plan : PlanParts) × IsPlanFor sheet plan × AnswersEvent farm old (Install plan) outcome

-- the plan of a text is handed in, or the text's first fault is told
abbrev pub AnswersText : FarmView → DayView → Result PlanParts TextFault → Outcome → Type 0
AnswersText farm old (Ok plan) outcome = AnswersEvent farm old (Install plan) outcome
AnswersText farm old (Err fault) outcome = IsOnlyText old (fault_text fault ++ codes "\n") outcome

-- ---- what is shown

-- of the script's own backend
abbrev pub shown_of : FarmView → DeskView → Shown → List ℕ
shown_of farm desk Show.Table = table_text farm.own.name farm.backend.servers (table_of farm.own) desk.shown.pins
shown_of farm desk Show.Plan = plan_text (last_installed desk.journal.entries)
shown_of farm desk Show.Journal = journal_text farm.own.name farm.backend.servers desk.journal.first desk.journal.entries

-- of another one, which has no servers and no events
abbrev pub shown_empty : Option BackendView → Shown → List ℕ
shown_empty (Some backend) Show.Table = table_text backend.name [] (table_of backend) []
shown_empty backend Show.Plan = plan_text None
shown_empty backend what = []

abbrev pub shown : FarmView → DeskView → Shown → ℕ → List ℕ
shown farm desk what place =
    if place == farm.place then shown_of farm desk what else shown_empty (slice_get farm.config.backends place) what

-- ---- a piece of the script

-- What is answered to a piece with this text, of which the first line says this
abbrev pub Answers : FarmView → DayView → List ℕ → Option ScriptLine → Outcome → Type 0
Answers farm old text (Some Says.Blank) outcome = IsOnlyText old [] outcome
Answers farm old text (Some (Says.Event event)) outcome = AnswersEvent farm old event outcome
Answers farm old text (Some Says.Snapshot) outcome = AnswersEvent farm old Snapshot outcome
Answers farm old text (Some (Says.Install number)) outcome = AnswersInstall farm old (kept_sheet old.sheets number) outcome
Answers farm old text (Some Says.PlanNow) outcome = AnswersPlanNow farm old outcome
Answers farm old text (Some Says.PlanText) outcome = AnswersText farm old (plan_of_text text) outcome
Answers farm old text (Some (Says.Show what place)) outcome = IsOnlyText old (shown farm old.desk what place) outcome
Answers farm old text (Some (Says.Refused fault)) outcome = IsOnlyText old (command_fault_text fault ++ codes "\n") outcome
Answers farm old text None outcome = ⊥

-- the answer to `install` isn't `71 Bad`: its plan is for the sheet of a snapshot
abbrev pub IsNotBad : Option ScriptLine → Outcome → Type 0
IsNotBad (Some (Says.Install number)) outcome =
    (plan : PlanParts) (fault : CheckFault) → Contains outcome.entries (entry (Install plan) (Refused (Bad fault))) → ⊥
IsNotBad said outcome = Unit {0}

-- nothing is answered: the line is of no form, or names a snapshot that wasn't taken
abbrev pub is_bad : DayView → Option ScriptLine → Bool
is_bad old None = true
is_bad old (Some (Says.Install number)) = is_none (kept_sheet old.sheets number)
is_bad old (Some said) = false
