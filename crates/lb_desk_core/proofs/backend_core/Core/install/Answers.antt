use Rattle.std.proofs.Common.{◌≡◌, ◌∙◌, length, ap, refl, arith}
use Rattle.std.specs.Prelude.{nat_lt, Err}
use Rattle.dual_cert_plan.specs.Plans.{PlanParts}
use Rattle.lb_desk_model.specs.declared.event.Event.TheVariants.{Install}
use Rattle.lb_desk_model.specs.declared.reply.Reply.TheVariants.{Installed}
use Rattle.lb_desk_model.specs.Installs.{JudgesAt}
use Rattle.lb_desk_model.specs.Seen.{Seen, Steps, view_seen}
use Rattle.lb_desk_core.specs.Core.{IsReached}
use Rattle.lb_desk_core.specs.Parts.{shown_of}
use Rattle.lb_desk_core.specs.PlacesPins.{PlacesPins}
use Rattle.lb_desk_core.proofs.InstallSteps.{bad_steps, install_steps}
use Rattle.lb_desk_core.proofs.Reached.{reached_further}
use Rattle.lb_desk_core.proofs.Snapshots.{reached_few}
use Rattle.lb_desk_core.proofs.backend_core.Core.install.Goals as goal

pub seen_servers-requires-clause-few : goal.seen_servers-requires-clause-few
seen_servers-requires-clause-few g c =
    let p = c.self-inside.inside in
    let shown : Seen = shown_of p.0.0.balance p.0.0.settings p.0.0.names.items p.0.0.farm p.0.0.book p.0.0.table p.0.0.cursor p.0.0.latest in
    let reached : IsReached shown = rw (← c.self-inside.view_is) at c.self.invariant in
    omega (arith, ap length c.deref.ensures.value, reached_few shown reached)

pub returns-in-Ok-clause-steps : goal.returns-in-Ok-clause-steps
returns-in-Ok-clause-steps g c =
    let before = c.self-inside.inside in
    let old : Seen = shown_of before.0.0.balance before.0.0.settings before.0.0.names.items before.0.0.farm before.0.0.book before.0.0.table
    before.0.0.cursor before.0.0.latest in
    let plan : PlanParts = c.args.plan.now in
    let here : plan.version ≡ old.version = omega (arith, c.if-version.false, c.version.ensures, c.version-2.ensures) in
    let version : plan.version ≡ c.self.inside.parts.shown.version = here ∙ (λ i. (c.self-inside.view_is i).parts.shown.version) in
    let p = c.self-inside-2.inside in
    let score = c.in-Ok.score in
    let left : Seen = shown_of p.0.0.balance p.0.0.settings p.0.0.names.items p.0.0.farm p.0.0.book p.0.0.table p.0.0.cursor p.0.0.latest in
    let same : left ≡ c.install.new.self.shown = λ i. (c.self-inside-2.view_is i).parts.shown in
    let placed : PlacesPins plan score c.self.inside.parts.shown left = rw same (rw c.in-Ok.is at c.in_ok-score.ensures.placed) in
    rw (← c.self.view_is, c.count.ensures)
    (install_steps c.self.inside.parts.shown left plan score (nat_lt 0 score.moved) c.self.invariant version placed refl)

pub invariant_of-self-in-Ok : goal.invariant_of-self-in-Ok
invariant_of-self-in-Ok g c =
    let before = c.self-inside.inside in
    let old : Seen = shown_of before.0.0.balance before.0.0.settings before.0.0.names.items before.0.0.farm before.0.0.book before.0.0.table
    before.0.0.cursor before.0.0.latest in
    let plan : PlanParts = c.args.plan.now in
    let here : plan.version ≡ old.version = omega (arith, c.if-version.false, c.version.ensures, c.version-2.ensures) in
    let version : plan.version ≡ c.self.inside.parts.shown.version = here ∙ (λ i. (c.self-inside.view_is i).parts.shown.version) in
    let p = c.self-inside-2.inside in
    let score = c.in-Ok.score in
    let left : Seen = shown_of p.0.0.balance p.0.0.settings p.0.0.names.items p.0.0.farm p.0.0.book p.0.0.table p.0.0.cursor p.0.0.latest in
    let same : left ≡ c.install.new.self.shown = λ i. (c.self-inside-2.view_is i).parts.shown in
    let placed : PlacesPins plan score c.self.inside.parts.shown left = rw same (rw c.in-Ok.is at c.in_ok-score.ensures.placed) in
    let new : Seen = shown_of p.0.0.balance p.0.0.settings p.0.0.names.items p.0.0.farm p.0.0.book c.count.new.table p.0.0.cursor p.0.0.latest in
    let steps : Steps c.args.self.now.shown (Install plan) (Installed score) new =
    rw (← c.self.view_is, c.count.ensures)
    (install_steps c.self.inside.parts.shown left plan score (nat_lt 0 score.moved) c.self.invariant version placed refl) in
    reached_further c.args.self.now.shown (Install plan) (Installed score) new (rw (← c.self.view_is) c.self.invariant) steps

pub returns-clause-steps : goal.returns-clause-steps
returns-clause-steps g c =
    let before = c.self-inside.inside in
    let old : Seen = shown_of before.0.0.balance before.0.0.settings before.0.0.names.items before.0.0.farm before.0.0.book before.0.0.table
    before.0.0.cursor before.0.0.latest in
    let plan : PlanParts = c.args.plan.now in
    let shown = c.self.inside.parts.shown in
    let here : plan.version ≡ old.version = omega (arith, c.if-version.false, c.version.ensures, c.version-2.ensures) in
    let version : plan.version ≡ shown.version = here ∙ (λ i. (c.self-inside.view_is i).parts.shown.version) in
    let judged : JudgesAt (view_seen shown) shown.version plan (Err c.in-Err.fault) = rw c.in-Err.is at c.in_ok-score.ensures.judged in
    let kept : c.install.new.self ≡ c.self.inside.parts = rw c.in-Err.is at c.in_ok-score.ensures.refused in
    rw (kept, ← c.self.view_is) (bad_steps shown plan c.in-Err.fault version judged)
