-- What answers come to.
use Rattle.std.proofs.Common.{◌≡◌, ℕ, true, inl, inr, Option, Some, None, List, [], ◌∷◌, ◌++◌, Result, Ok, Err, refl, sym, ap, subst, ◌∙◌, append_assoc, append-nil}
use Rattle.std.specs.Io.KnownBytes.{Appends}
use Rattle.pin_set.specs.declared.totals.Score.{Score}
use Rattle.dual_cert_plan.specs.Plans.{PlanParts}
use Rattle.dual_cert_plan.specs.Sheets.{SheetParts}
use Rattle.dual_cert.specs.PlanTexts.{plan_of_text}
use Rattle.dual_cert.specs.TextFault.{TextFault}
use Rattle.lb_desk_model.specs.declared.entry.Entry.{Entry}
use Rattle.lb_desk_model.specs.declared.event.Event.{Event}
use Rattle.lb_desk_model.specs.declared.event.Event.TheVariants.{Snapshot, Install}
use Rattle.lb_desk_model.specs.declared.reply.Reply.{Reply}
use Rattle.lb_desk_model.specs.declared.reply.Reply.TheVariants.{Sheet, Installed}
use Rattle.lb_desk_law.specs.Worlds.{entry}
use Rattle.lb_desk_model.specs.Backends.{BackendParts}
use Rattle.lb_desk_step.specs.Desk.{StandsAt, Takes, is_worn_for}
use Rattle.lb_desk_step.specs.Planning.{PlansNow, is_worn_for_two}
use Rattle.lb_answers.specs.Events.{asked_server}
use Rattle.lb_script.specs.declared.script_line.ScriptLine.{ScriptLine}
use Rattle.lb_script.specs.declared.script_line.ScriptLine.TheVariants as Says
use Rattle.lb_replay.specs.Farms.{FarmView}
use Rattle.lb_replay.specs.Days.{DayView, Outcome, IsOnlyText, kept_sheet, with_reply}
use Rattle.lb_replay.specs.Answers.{Answers, AnswersEvent, AnswersInstall, AnswersPlanNow, AnswersText, reply_line, worn_line}
use Rattle.lb_replay.specs.Steps.{Does}

-- only a text went out
pub only_text : (day new : DayView) (text : List ℕ) (before after : Option (List ℕ)) → new ≡ day → Appends before after text
    → Does (IsOnlyText day text) new before after
only_text day new text before after same went = record {
  outcome = record { entries = []; text = text; day = day };
  is = record { text = refl; entries = refl; day = refl };
  day = sym same;
  went = went;
}

-- the event was taken
pub took_event : (farm : FarmView) (old new : DayView) (event : Event) (reply : Reply) (before after : Option (List ℕ))
    → Takes old.desk event reply new.desk → new.sheets ≡ with_reply old.sheets reply
    → Appends before after (reply_line farm (asked_server event) reply) → Does (AnswersEvent farm old event) new before after
took_event farm old new event reply before after takes sheets went = record {
  outcome = record { entries = entry event reply ∷ []; text = reply_line farm (asked_server event) reply; day = new };
  is = inl (reply, record { takes = takes; sheets = sheets; entries = refl; text = refl });
  day = refl;
  went = went;
}

-- or the backend is worn
pub worn_event : (farm : FarmView) (old new : DayView) (event : Event) (before after : Option (List ℕ)) → is_worn_for old.desk event ≡ true
    → new ≡ old → Appends before after worn_line → Does (AnswersEvent farm old event) new before after
worn_event farm old new event before after worn same went =
    let only = only_text old new worn_line before after same went in
    record { outcome = only.outcome; is = inr (worn, only.is); day = only.day; went = only.went }

-- both events of a plan were taken
pub planned_now : (farm : FarmView) (old new : DayView) (score : Score) (before after : Option (List ℕ)) → PlansNow old.desk score new.desk
    → new.sheets ≡ old.sheets → Appends before after (reply_line farm None (Installed score)) → Does (AnswersPlanNow farm old) new before after
planned_now farm old new score before after plans sheets went = record {
  outcome = record {
    entries = entry Snapshot (Sheet plans.sheet) ∷ entry (Install plans.plan) (Installed score) ∷ [];
    text = reply_line farm None (Installed score);
    day = new;
  };
  is = inl (record { score = score; plans = plans; sheets = sheets; entries = refl; text = refl });
  day = refl;
  went = went;
}

pub worn_now : (farm : FarmView) (old new : DayView) (before after : Option (List ℕ)) → is_worn_for_two old.desk ≡ true → new ≡ old
    → Appends before after worn_line → Does (AnswersPlanNow farm old) new before after
worn_now farm old new before after worn same went =
    let only = only_text old new worn_line before after same went in
    record { outcome = only.outcome; is = inr (worn, only.is); day = only.day; went = only.went }

-- an outcome of one kind is one of another
pub does_also : {A B : Outcome → Type 0} (new : DayView) (before after : Option (List ℕ)) → ((outcome : Outcome) → A outcome → B outcome)
    → Does A new before after → Does B new before after
does_also new before after also did = record { outcome = did.outcome; is = also did.outcome did.is; day = did.day; went = did.went }

-- ---- the log

module _ (backend : BackendParts) (log : List Entry) where
  -- nothing happened
  stands_still : (old : DayView) (text : List ℕ) (outcome : Outcome) → IsOnlyText old text outcome → StandsAt backend log old.desk
      → StandsAt backend (log ++ outcome.entries) outcome.day.desk
  stands_still old text outcome only at =
      let log_is : log ≡ log ++ outcome.entries = sym (ap (λ es. log ++ es) only.entries ∙ append-nil log) in
      subst (λ (es : List Entry). StandsAt backend es outcome.day.desk) log_is
      (subst (λ (d : DayView). StandsAt backend log d.desk) (sym only.day) at)

  stands_event : (farm : FarmView) (old : DayView) (event : Event) (outcome : Outcome) → AnswersEvent farm old event outcome
      → StandsAt backend log old.desk → StandsAt backend (log ++ outcome.entries) outcome.day.desk
  stands_event farm old event outcome (inl (reply, took)) at =
      subst (λ (es : List Entry). StandsAt backend (log ++ es) outcome.day.desk) (sym took.entries) (took.takes.log backend log at)
  stands_event farm old event outcome (inr (worn, only)) at = stands_still old worn_line outcome only at

  stands_planned : (farm : FarmView) (old : DayView) (outcome : Outcome) → AnswersPlanNow farm old outcome → StandsAt backend log old.desk
      → StandsAt backend (log ++ outcome.entries) outcome.day.desk
  stands_planned farm old outcome (inl planned) at =
      let snapshot = entry Snapshot (Sheet planned.plans.sheet) in
      let install = entry (Install planned.plans.plan) (Installed planned.score) in
      let between = planned.plans.snapshot.log backend log at in
      let both = planned.plans.install.log backend (log ++ snapshot ∷ []) between in
      let log_is : (log ++ snapshot ∷ []) ++ install ∷ [] ≡ log ++ outcome.entries =
      append_assoc log (snapshot ∷ []) (install ∷ []) ∙ ap (λ es. log ++ es) (sym planned.entries) in
      subst (λ (es : List Entry). StandsAt backend es outcome.day.desk) log_is both
  stands_planned farm old outcome (inr (worn, only)) at = stands_still old worn_line outcome only at

  stands_install : (farm : FarmView) (old : DayView) (sheet : Option SheetParts) (outcome : Outcome) → AnswersInstall farm old sheet outcome
      → StandsAt backend log old.desk → StandsAt backend (log ++ outcome.entries) outcome.day.desk
  stands_install farm old None outcome answers at = absurd answers
  stands_install farm old (Some sheet) outcome (plan, fit, answers) at = stands_event farm old (Install plan) outcome answers at

  stands_text : (farm : FarmView) (old : DayView) (read : Result PlanParts TextFault) (outcome : Outcome) → AnswersText farm old read outcome
      → StandsAt backend log old.desk → StandsAt backend (log ++ outcome.entries) outcome.day.desk
  stands_text farm old (Ok plan) outcome answers at = stands_event farm old (Install plan) outcome answers at
  stands_text farm old (Err fault) outcome answers at = stands_still old _ outcome answers at

  -- whatever is asked for, the log behind the answer leads to the desk behind it
  pub stands_answered : (farm : FarmView) (old : DayView) (text : List ℕ) (said : Option ScriptLine) (outcome : Outcome)
      → Answers farm old text said outcome → StandsAt backend log old.desk → StandsAt backend (log ++ outcome.entries) outcome.day.desk
  stands_answered farm old text None outcome answers at = absurd answers
  stands_answered farm old text (Some Says.Blank) outcome answers at = stands_still old _ outcome answers at
  stands_answered farm old text (Some (Says.Event event)) outcome answers at = stands_event farm old event outcome answers at
  stands_answered farm old text (Some Says.Snapshot) outcome answers at = stands_event farm old Snapshot outcome answers at
  stands_answered farm old text (Some (Says.Install number)) outcome answers at =
      stands_install farm old (kept_sheet old.sheets number) outcome answers at
  stands_answered farm old text (Some Says.PlanNow) outcome answers at = stands_planned farm old outcome answers at
  stands_answered farm old text (Some Says.PlanText) outcome answers at = stands_text farm old (plan_of_text text) outcome answers at
  stands_answered farm old text (Some (Says.Show what place)) outcome answers at = stands_still old _ outcome answers at
  stands_answered farm old text (Some (Says.Refused fault)) outcome answers at = stands_still old _ outcome answers at
