-- Logs that are cut at an install.
use Rattle.std.proofs.Common.{◌≡◌, ◌≢◌, List, ◌∷◌, ◌++◌, sym, ap, ◌∙◌, subst}
use Rattle.std.specs.Prelude.{Ok, Err}
use Rattle.pin_set.specs.declared.totals.Score.{Score}
use Rattle.pin_set.specs.Rows.{rows_score}
use Rattle.dual_cert_plan.specs.Plans.{PlanParts}
use Rattle.dual_cert_plan.specs.Sheets.{SheetParts}
use Rattle.cert_check.specs.Verdict.{verdict}
use Rattle.cert_check.proofs.Means.{score-means}
use Rattle.lb_desk_model.specs.declared.entry.Entry.{Entry}
use Rattle.lb_desk_model.specs.declared.event.Event.TheVariants.{Install}
use Rattle.lb_desk_model.specs.declared.reply.Refusal.TheVariants.{Stale, Bad}
use Rattle.lb_desk_model.specs.declared.reply.Reply.{Reply}
use Rattle.lb_desk_model.specs.declared.reply.Reply.TheVariants.{Installed, Refused}
use Rattle.lb_desk_model.specs.Backends.{BackendParts}
use Rattle.lb_desk_model.specs.Histories.{History}
use Rattle.lb_desk_model.specs.Installs.{IsSheetOf}
use Rattle.lb_desk_model.specs.States.{State, opening, view_of}
use Rattle.lb_desk_model.specs.Steps.{Does, Step}
use Rattle.lb_desk_law.specs.Worlds.{entry}
use Rattle.lb_desk_law.proofs.Accepted.{best_of_accepted}
use Rattle.lb_desk_law.proofs.Apart.{history-apart}
use Rattle.lb_desk_law.proofs.Installs.{outcome, outcome-moved, outcome-best, stale-exactly, stale-once-changed, bad-exactly, judges-same}
use Rattle.lb_desk_law.proofs.Parts.{cut}
use Rattle.lb_desk_law.proofs.Versions.{history-same}
use Rattle.lb_desk_law.proofs.Worlds.{sheet-moved}
use Rattle.lb_desk_seen.specs.Accepted.{IsAcceptedFor, OneViewAVersion, AcceptedNow, AcceptedBefore}
use Rattle.lb_desk_seen.specs.Logs.{IsStaleOrBest, HeadlineOfALog}

-- ---- logs

promised : (backend : BackendParts) (early : List Entry) (old : State) (plan : PlanParts) (reply : Reply) (new : State)
    → History (opening backend) early old → Step old (Install plan) reply new → IsStaleOrBest old plan reply new
promised backend early old plan reply new before step = record {
  stale = stale-exactly old plan reply new step;
  kept = λ score e. outcome-moved old plan score new (history-apart (opening backend) early old tt before) (outcome old plan reply score new step e);
  lawful = λ score e. (outcome-best old plan score new (outcome old plan reply score new step e)).0.lawful;
  best = λ score e. outcome-best old plan score new (outcome old plan reply score new step e);
  bad = bad-exactly old plan reply new step;
}

pub headline_of_a_log : HeadlineOfALog
headline_of_a_log backend log end history early late plan reply e =
    let whole : History (opening backend) (early ++ entry (Install plan) reply ∷ late) end = subst (λ (es : List Entry). History (opening backend) es end) e history in
    let found = cut early (entry (Install plan) reply ∷ late) (opening backend) end whole in
    record {
      around = record { old = found.0; new = found.2.0; before = found.1; step = found.2.1; after = found.2.2 };
      promised = λ at. promised backend early at.old plan reply at.new at.before at.step;
      since = λ at first since point parts before between. stale-once-changed point since at.old plan reply at.new between at.step;
    }

-- ---- plans that are accepted

pub one_view_a_version : OneViewAVersion
one_view_a_version point later since history versions = history-same point since later history versions

score_of_verdict : (sheet : SheetParts) (plan : PlanParts) (score : Score) → verdict sheet plan ≡ Ok score → score ≡ rows_score plan.rows
score_of_verdict sheet plan score accepted =
    rw accepted at (score-means sheet plan)

accepted_does : (old : State) (sheet : SheetParts) (plan : PlanParts) (score : Score) (reply : Reply) (acted : State) → IsSheetOf old sheet
    → IsAcceptedFor sheet plan score → Does old (Install plan) reply acted → reply ≡ Installed score
accepted_does old sheet plan score (Refused Stale) acted of accepted d = absurd (d.0 (accepted.version ∙ of.version))
accepted_does old sheet plan score (Refused (Bad fault)) acted of accepted d =
    let same : Ok score ≡ Err fault = judges-same old plan (Ok score) (Err fault) (record { sheet = sheet; of = of; verdict = accepted.accepted }) d.1 in
    absurd cc
accepted_does old sheet plan score (Installed other) acted of accepted d =
    let i = d.1 in
    let best = best_of_accepted i.judges.sheet plan i.accepted i.judges.of.lawful i.judges.verdict in
    let given : other ≡ rows_score plan.rows = i.score_is ∙ best.score (view_of old) i.places i.judges.of.stands i.agrees in
    let checked : score ≡ rows_score plan.rows = score_of_verdict sheet plan score accepted.accepted in
    ap Installed (given ∙ sym checked)
accepted_does old sheet plan score reply acted of accepted d = absurd d

pub accepted_now : AcceptedNow
accepted_now old sheet plan score reply new of accepted step = accepted_does old sheet plan score reply step.acted of accepted step.does

pub accepted_before : AcceptedBefore
accepted_before point old since sheet plan score reply new history of accepted step = (
  λ (same : old.version ≡ point.version).
      let views = history-same point since old history same in
      accepted_now old sheet plan score reply new (sheet-moved point old sheet views (sym same) of) accepted step,
  λ (other : old.version ≢ point.version).
      (stale-exactly old plan reply new step).exact.1
      (λ (e : plan.version ≡ old.version). other (sym e ∙ (accepted.version ∙ of.version))),
)
