-- Plans at a seat, for sheets that it was given.
use Rattle.std.proofs.Common.{◌≡◌, ℕ, zero, suc, ◌<◌, List, [], ◌∷◌, ◌++◌, length, Some, Ok, refl, sym, ap, ◌∙◌, arith}
use Rattle.std.specs.Prelude.{Contains, slice_get, slice_index_or}
use Rattle.std.proofs.lemmas.Option.{get_or_from_slice_get, slice_get_within}
use Rattle.dual_cert_plan.specs.Plans.{PlanParts}
use Rattle.lb_desk_model.specs.declared.entry.Entry.{Entry}
use Rattle.lb_desk_model.specs.declared.event.Event.TheVariants.{Snapshot, Install}
use Rattle.lb_desk_model.specs.declared.reply.Reply.{Reply}
use Rattle.lb_desk_model.specs.declared.reply.Reply.TheVariants as reply
use Rattle.lb_desk_model.specs.Backends.{BackendParts}
use Rattle.lb_desk_ports.specs.declared.replies.Installing.{Installing}
use Rattle.lb_desk_ports.specs.declared.replies.Installing.TheVariants.{Installed, Stale}
use Rattle.lb_desk_ports.specs.Calls.{entry}
use Rattle.lb_desk_ports.specs.Movers.{IsPlanned, installing_entries, installing_reply}
use Rattle.lb_desk_step.proofs.NeverBad.{next_is_answered}
use Rattle.lb_desk_tie.specs.Receipts.{Each, PassView, StandsIn}
use Rattle.lb_desk_shared.specs.Calls.{AddsStep, IsStepAt, entries_of}
use Rattle.lb_desk_seat.specs.Replies.{installing_of}
use Rattle.lb_desk_seat.proofs.Asking.{step_adds}

-- ---- what the receipts say, the history has

stands_at : (history : List Entry) (number : ℕ) (e : Entry) → slice_get history number ≡ Some e → Contains history e
stands_at history number e at = (number, slice_get_within history number e at, get_or_from_slice_get history number e e at)

stands_there : (history : List Entry) (receipts : List (ℕ × Entry)) (e : Entry) (k : ℕ) → Each (StandsIn history) receipts
    → k < length (entries_of receipts) → slice_index_or (entries_of receipts) k e ≡ e → Contains history e
stands_there history [] e k stand below is = absurd (omega arith)
stands_there history (r ∷ receipts) e zero stand below is = stands_at history r.0 e (stand.0 ∙ ap Some is)
stands_there history (r ∷ receipts) e (suc k) stand below is = stands_there history receipts e k stand.1 (omega arith) is

planned_there : (history : List Entry) (receipts : List (ℕ × Entry)) (plan : PlanParts) → Each (StandsIn history) receipts
    → IsPlanned (entries_of receipts) plan → IsPlanned history plan
planned_there history receipts plan stand planned =
    let snapshot = entry Snapshot (reply.Sheet planned.sheet) in
    let given = planned.given in
    record { sheet = planned.sheet; given = stands_there history receipts snapshot given.0 stand given.1 given.2; fit = planned.fit }

-- ---- a plan that is handed in

same_answer : (answer : Installing) → installing_of (installing_reply answer) ≡ answer
same_answer (Installed score) = refl
same_answer Stale = refl

answered : (backend : BackendParts) (receipts : List (ℕ × Entry)) (number : ℕ) (plan : PlanParts) (told : Reply)
    → IsStepAt backend receipts number (Install plan) told → IsPlanned (entries_of receipts) plan → told ≡ installing_reply (installing_of told)
answered backend receipts number plan told at planned =
    let there = planned_there at.history receipts plan at.stand planned in
    let found = next_is_answered backend at.history at.old plan told at.new at.before there at.step in
    found.1 ∙ ap installing_reply (sym (ap installing_of found.1 ∙ same_answer found.0))

pub handed_in : (backend : BackendParts) (old new : PassView Entry) (plan : PlanParts) (told : Reply) (answer : Installing)
    → AddsStep backend old (Install plan) told new → IsPlanned (entries_of old.receipts) plan → answer ≡ installing_of told
    → entries_of new.receipts ≡ entries_of old.receipts ++ installing_entries plan (Ok answer)
handed_in backend old new plan told answer adds planned is =
    step_adds backend old new (Install plan) told adds
    ∙ ap (λ (r : Reply). entries_of old.receipts ++ entry (Install plan) r ∷ [])
    (answered backend old.receipts adds.number plan told adds.step planned ∙ ap installing_reply (sym is))
