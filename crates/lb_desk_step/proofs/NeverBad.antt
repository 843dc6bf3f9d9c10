-- Plans for sheets that a history gave are never answered Bad in it.
use Rattle.std.proofs.Common.{◌≡◌, List, [], ◌∷◌, ◌++◌, Result, Ok, Err, refl, subst}
use Rattle.std.specs.Prelude.{IsOk}
use Rattle.std.proofs.lemmas.List.Elements.{Contains-append_left, Contains-push}
use Rattle.pin_set.specs.declared.totals.Score.{Score}
use Rattle.dual_cert_plan.specs.Plans.{PlanParts}
use Rattle.cert_check.specs.declared.fault.CheckFault.{CheckFault}
use Rattle.cert_check.specs.Verdict.{verdict}
use Rattle.lb_desk_model.specs.declared.entry.Entry.{Entry}
use Rattle.lb_desk_model.specs.declared.event.Event.TheVariants.{Snapshot, Install}
use Rattle.lb_desk_model.specs.declared.reply.Refusal.TheVariants.{Stale, Bad}
use Rattle.lb_desk_model.specs.declared.reply.Reply.{Reply}
use Rattle.lb_desk_model.specs.declared.reply.Reply.TheVariants.{Sheet, Installed, Refused}
use Rattle.lb_desk_model.specs.Backends.{BackendParts}
use Rattle.lb_desk_model.specs.Histories.{History}
use Rattle.lb_desk_model.specs.States.{State, opening}
use Rattle.lb_desk_model.specs.Steps.{Does, Step}
use Rattle.lb_desk_law.specs.Worlds.{entry, IsAccepted}
use Rattle.lb_desk_law.proofs.Parts.{joined}
use Rattle.lb_desk_law.proofs.Worlds.{accepted_are_never_bad}
use Rattle.lb_desk_ports.specs.declared.replies.Installing.{Installing}
use Rattle.lb_desk_ports.specs.declared.replies.Installing.TheVariants as installing
use Rattle.lb_desk_ports.specs.Movers.{IsPlanned, NoneIsBad, installing_reply}

-- a plan that the check accepts has a score
with_score : (answer : Result Score CheckFault) → IsOk answer → (score : Score) × (answer ≡ Ok score)
with_score (Ok score) is = (score, refl)
with_score (Err fault) is = absurd cc

accepted_of : (entries : List Entry) (plan : PlanParts) → IsPlanned entries plan → IsAccepted entries plan
accepted_of entries plan planned =
    let scored = with_score (verdict planned.sheet plan) planned.fit.accepted in
    record { sheet = planned.sheet; taken = planned.given; version = planned.fit.version; score = scored.0; accepted = scored.1 }

pub none_is_bad : (backend : BackendParts) (log : List Entry) (end : State) → History (opening backend) log end → NoneIsBad log
none_is_bad backend log end history plan fault planned = accepted_are_never_bad backend log end plan fault history (accepted_of log plan planned)

-- nor is it at the history's end
pub next_is_not_bad : (backend : BackendParts) (log : List Entry) (old : State) (plan : PlanParts) (reply : Reply) (new : State) (fault : CheckFault)
    → History (opening backend) log old → IsPlanned log plan → Step old (Install plan) reply new → reply ≡ Refused (Bad fault) → ⊥
next_is_not_bad backend log old plan reply new fault history planned step is =
    let bad = entry (Install plan) (Refused (Bad fault)) in
    let last : Step old (Install plan) (Refused (Bad fault)) new = subst (λ (r : Reply). Step old (Install plan) r new) is step in
    let whole : History (opening backend) (log ++ bad ∷ []) new = joined log (bad ∷ []) (opening backend) old new history (new, last, refl) in
    let still : IsPlanned (log ++ bad ∷ []) plan = record {
      sheet = planned.sheet;
      given = Contains-append_left log (bad ∷ []) (entry Snapshot (Sheet planned.sheet)) planned.given;
      fit = planned.fit;
    } in
    none_is_bad backend (log ++ bad ∷ []) new whole plan fault still (Contains-push log bad)

answer_of : (old : State) (plan : PlanParts) (reply : Reply) (acted : State) → Does old (Install plan) reply acted
    → ((fault : CheckFault) → reply ≡ Refused (Bad fault) → ⊥) → (answer : Installing) × (reply ≡ installing_reply answer)
answer_of old plan (Installed score) acted d good = (installing.Installed score, refl)
answer_of old plan (Refused Stale) acted d good = (installing.Stale, refl)
answer_of old plan (Refused (Bad fault)) acted d good = absurd (good fault refl)
answer_of old plan reply acted d good = absurd d

-- so it is installed or stale
pub next_is_answered : (backend : BackendParts) (log : List Entry) (old : State) (plan : PlanParts) (reply : Reply) (new : State)
    → History (opening backend) log old → IsPlanned log plan → Step old (Install plan) reply new
    → (answer : Installing) × (reply ≡ installing_reply answer)
next_is_answered backend log old plan reply new history planned step =
    answer_of old plan reply step.acted step.does (λ fault. next_is_not_bad backend log old plan reply new fault history planned step)
