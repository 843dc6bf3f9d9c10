-- Sheets that a script's snapshots gave, and plans for them.
use Rattle.std.proofs.Common.{◌≡◌, ◌⊎◌, ℕ, zero, suc, ◌-◌, ◌==◌, Bool, true, false, Option, Some, None, List, [], ◌∷◌, ◌++◌, Result, Ok, Err, inl, inr, refl, sym, ap, subst, arith}
use Rattle.std.specs.Prelude.{Contains, slice_get, if◌then◌else◌}
use Rattle.std.proofs.lemmas.List.Elements.{Contains-append_left, Contains-push, Contains-push_cases}
use Rattle.std.proofs.lemmas.Option.{same_Some}
use Rattle.dual_cert_plan.specs.Plans.{PlanParts}
use Rattle.dual_cert_plan.specs.Sheets.{SheetParts}
use Rattle.dual_cert.specs.PlanTexts.{plan_of_text}
use Rattle.dual_cert.specs.TextFault.{TextFault}
use Rattle.cert_check.specs.declared.fault.CheckFault.{CheckFault}
use Rattle.lb_desk_model.specs.declared.entry.Entry.{Entry}
use Rattle.lb_desk_model.specs.declared.event.Event.{Event}
use Rattle.lb_desk_model.specs.declared.event.Event.TheVariants.{Snapshot, Install}
use Rattle.lb_desk_model.specs.declared.reply.Refusal.TheVariants.{Bad}
use Rattle.lb_desk_model.specs.declared.reply.Reply.{Reply}
use Rattle.lb_desk_model.specs.declared.reply.Reply.TheVariants.{Sheet, Refused}
use Rattle.lb_desk_model.specs.States.{State}
use Rattle.lb_desk_model.specs.Steps.{Does}
use Rattle.lb_desk_law.specs.Worlds.{entry}
use Rattle.lb_desk_ports.specs.Movers.{IsPlanned}
use Rattle.lb_desk_step.specs.Desk.{StandsAt}
use Rattle.lb_desk_step.proofs.NeverBad.{next_is_not_bad}
use Rattle.lb_script.specs.declared.script_line.ScriptLine.{ScriptLine}
use Rattle.lb_script.specs.declared.script_line.ScriptLine.TheVariants as Says
use Rattle.lb_replay.specs.Farms.{FarmView}
use Rattle.lb_replay.specs.Days.{DayView, Outcome, IsOnlyText, kept_sheet, with_reply}
use Rattle.lb_replay.specs.Answers.{Answers, AnswersEvent, AnswersInstall, AnswersPlanNow, AnswersText, IsNotBad, worn_line}
use Rattle.lb_replay.specs.Steps.{AreGiven}

-- ---- lists

push_cases : (sheets : List SheetParts) (last sheet : SheetParts) (place : ℕ) → slice_get (sheets ++ last ∷ []) place ≡ Some sheet
    → (slice_get sheets place ≡ Some sheet) ⊎ (last ≡ sheet)
push_cases [] last sheet zero at = inr (same_Some _ _ at)
push_cases [] last sheet (suc place) at = absurd cc
push_cases (s ∷ sheets) last sheet zero at = inl at
push_cases (s ∷ sheets) last sheet (suc place) at = push_cases sheets last sheet place at

kept_at : (sheets : List SheetParts) (none : Bool) (place : ℕ) (sheet : SheetParts)
    → (if none then None else slice_get sheets place) ≡ Some sheet → slice_get sheets place ≡ Some sheet
kept_at sheets true place sheet is = absurd cc
kept_at sheets false place sheet is = is

in_none : (e : Entry) → Contains [] e → ⊥
in_none e has = let below = has.1 in omega arith

only_one : (one e : Entry) → Contains (one ∷ []) e → one ≡ e
only_one one e has = elim (Contains-push_cases [] one e has) [ inl none ↦ absurd (in_none e none) | inr same ↦ same ]

-- only a snapshot is answered by a sheet
sheet_is_given : (old : State) (event : Event) (sheet : SheetParts) (acted : State) → Does old event (Sheet sheet) acted → event ≡ Snapshot
sheet_is_given old Snapshot sheet acted d = refl
sheet_is_given old event sheet acted d = absurd d

-- ---- the sheets behind an answer

module _ (farm : FarmView) (log : List Entry) where
  given_further : (more : List Entry) (sheets : List SheetParts) → AreGiven log sheets → AreGiven (log ++ more) sheets
  given_further more sheets given place sheet at = Contains-append_left log more (entry Snapshot (Sheet sheet)) (given place sheet at)

  given_reply : (sheets : List SheetParts) (old : State) (event : Event) (reply : Reply) (acted : State) → Does old event reply acted
      → AreGiven log sheets → AreGiven (log ++ entry event reply ∷ []) (with_reply sheets reply)
  given_reply sheets old event (Sheet last) acted d given = λ place sheet at.
      let snapshot : event ≡ Snapshot = sheet_is_given old event last acted d in
      elim (push_cases sheets last sheet place at) [
        | inl before ↦ given_further (entry event (Sheet last) ∷ []) sheets given place sheet before
        | inr same ↦
            subst (λ (e : Event). Contains (log ++ entry e (Sheet last) ∷ []) (entry Snapshot (Sheet sheet))) (sym snapshot)
            (subst (λ (s : SheetParts). Contains (log ++ entry Snapshot (Sheet last) ∷ []) (entry Snapshot (Sheet s))) same
            (Contains-push log (entry Snapshot (Sheet last))))
      ]
  given_reply sheets old event reply acted d given = given_further (entry event reply ∷ []) sheets given

  given_still : (old : DayView) (text : List ℕ) (outcome : Outcome) → IsOnlyText old text outcome → AreGiven log old.sheets
      → AreGiven (log ++ outcome.entries) outcome.day.sheets
  given_still old text outcome only given =
      subst (λ (d : DayView). AreGiven (log ++ outcome.entries) d.sheets) (sym only.day) (given_further outcome.entries old.sheets given)

  given_event : (old : DayView) (event : Event) (outcome : Outcome) → AnswersEvent farm old event outcome → StandsAt farm.backend log old.desk
      → AreGiven log old.sheets → AreGiven (log ++ outcome.entries) outcome.day.sheets
  given_event old event outcome (inl (reply, took)) at given =
      let next = took.takes.steps at.reaches.state at.reaches.is in
      subst (λ (es : List Entry). AreGiven (log ++ es) outcome.day.sheets) (sym took.entries)
      (subst (λ (ss : List SheetParts). AreGiven (log ++ entry event reply ∷ []) ss) (sym took.sheets)
      (given_reply old.sheets at.reaches.state event reply next.step.acted next.step.does given))
  given_event old event outcome (inr (worn, only)) at given = given_still old worn_line outcome only given

  given_planned : (old : DayView) (outcome : Outcome) → AnswersPlanNow farm old outcome → AreGiven log old.sheets
      → AreGiven (log ++ outcome.entries) outcome.day.sheets
  given_planned old outcome (inl planned) given =
      subst (λ (ss : List SheetParts). AreGiven (log ++ outcome.entries) ss) (sym planned.sheets) (given_further outcome.entries old.sheets given)
  given_planned old outcome (inr (worn, only)) given = given_still old worn_line outcome only given

  given_install : (old : DayView) (kept : Option SheetParts) (outcome : Outcome) → AnswersInstall farm old kept outcome
      → StandsAt farm.backend log old.desk → AreGiven log old.sheets → AreGiven (log ++ outcome.entries) outcome.day.sheets
  given_install old None outcome answers at given = absurd answers
  given_install old (Some sheet) outcome (plan, fit, answers) at given = given_event old (Install plan) outcome answers at given

  given_text : (old : DayView) (read : Result PlanParts TextFault) (outcome : Outcome) → AnswersText farm old read outcome
      → StandsAt farm.backend log old.desk → AreGiven log old.sheets → AreGiven (log ++ outcome.entries) outcome.day.sheets
  given_text old (Ok plan) outcome answers at given = given_event old (Install plan) outcome answers at given
  given_text old (Err fault) outcome answers at given = given_still old _ outcome answers given

  -- whatever is asked for, the sheets behind the answer were given by the log behind it
  pub given_answered : (old : DayView) (text : List ℕ) (said : Option ScriptLine) (outcome : Outcome) → Answers farm old text said outcome
      → StandsAt farm.backend log old.desk → AreGiven log old.sheets → AreGiven (log ++ outcome.entries) outcome.day.sheets
  given_answered old text None outcome answers at given = absurd answers
  given_answered old text (Some Says.Blank) outcome answers at given = given_still old _ outcome answers given
  given_answered old text (Some (Says.Event event)) outcome answers at given = given_event old event outcome answers at given
  given_answered old text (Some Says.Snapshot) outcome answers at given = given_event old Snapshot outcome answers at given
  given_answered old text (Some (Says.Install number)) outcome answers at given =
      given_install old (kept_sheet old.sheets number) outcome answers at given
  given_answered old text (Some Says.PlanNow) outcome answers at given = given_planned old outcome answers given
  given_answered old text (Some Says.PlanText) outcome answers at given = given_text old (plan_of_text text) outcome answers at given
  given_answered old text (Some (Says.Show what place)) outcome answers at given = given_still old _ outcome answers given
  given_answered old text (Some (Says.Refused fault)) outcome answers at given = given_still old _ outcome answers given

  -- ---- a plan for one of them

  -- the answer to it isn't Bad
  plan_not_bad : (old : DayView) (plan : PlanParts) (outcome : Outcome) → IsPlanned log plan → AnswersEvent farm old (Install plan) outcome
      → StandsAt farm.backend log old.desk → (other : PlanParts) (fault : CheckFault)
      → Contains outcome.entries (entry (Install other) (Refused (Bad fault))) → ⊥
  plan_not_bad old plan outcome planned (inl (reply, took)) at other fault has =
      let bad = entry (Install other) (Refused (Bad fault)) in
      let next = took.takes.steps at.reaches.state at.reaches.is in
      let same : entry (Install plan) reply ≡ bad =
      only_one (entry (Install plan) reply) bad (subst (λ (es : List Entry). Contains es bad) took.entries has) in
      next_is_not_bad farm.backend log at.reaches.state plan reply next.next fault at.reaches.history planned next.step
      (ap (λ (e : Entry). e.reply) same)
  plan_not_bad old plan outcome planned (inr (worn, only)) at other fault has =
      in_none _ (subst (λ (es : List Entry). Contains es (entry (Install other) (Refused (Bad fault)))) only.entries has)

  install_not_bad : (old : DayView) (number : ℕ) (kept : Option SheetParts) (outcome : Outcome) → kept_sheet old.sheets number ≡ kept
      → AnswersInstall farm old kept outcome → StandsAt farm.backend log old.desk → AreGiven log old.sheets
      → IsNotBad (Some (Says.Install number)) outcome
  install_not_bad old number None outcome is answers at given = absurd answers
  install_not_bad old number (Some sheet) outcome is (plan, fit, answers) at given =
      let planned : IsPlanned log plan = record {
        sheet = sheet;
        given = given (number - 1) sheet (kept_at old.sheets (number == 0) (number - 1) sheet is);
        fit = fit;
      } in
      plan_not_bad old plan outcome planned answers at

  pub not_bad : (old : DayView) (text : List ℕ) (said : ScriptLine) (outcome : Outcome) → Answers farm old text (Some said) outcome
      → StandsAt farm.backend log old.desk → AreGiven log old.sheets → IsNotBad (Some said) outcome
  not_bad old text (Says.Install number) outcome answers at given =
      install_not_bad old number (kept_sheet old.sheets number) outcome refl answers at given
  not_bad old text said outcome answers at given = tt
