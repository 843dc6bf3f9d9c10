use Rattle.std.proofs.Common.{◌≡◌, subst}
use Rattle.dual_cert_plan.specs.Sheets.{SheetParts}
use Rattle.flow_planner_law.specs.Accepted.{IsAccepted}
use Rattle.lb_desk_evacuate.proofs.Trying.{accepted_fits, is_planned, tried}
use Rattle.lb_desk_evacuate.proofs.evacuating.try_once.Goals as goal

pub install-requires : goal.install-requires
install-requires g c =
    let entries = g.M.Mover.entries in
    let sheet = c.in_ok-sheet.sheet in
    let plan = c.into_plan-plan.result in
    let accepted : IsAccepted sheet plan =
    subst (λ (s : SheetParts). IsAccepted s plan) c.deref.ensures (rw c.into_plan-plan.ensures.exact c.in_ok-plan.ensures.accepted) in
    let version : plan.version ≡ sheet.version =
    subst (λ (s : SheetParts). plan.version ≡ s.version) c.deref.ensures (rw c.into_plan-plan.ensures.exact c.in_ok-plan.ensures.version) in
    let fit = accepted_fits sheet plan accepted version in
    record { planned = is_planned sheet plan (entries c.args.mover.now) (entries c.snapshot.new.self) fit c.in_ok-sheet.ensures.entries }

pub returns-clause-entries : goal.returns-clause-entries
returns-clause-entries g c =
    let entries = g.M.Mover.entries in
    let sheet = c.in_ok-sheet.sheet in
    let plan = c.into_plan-plan.result in
    let accepted : IsAccepted sheet plan =
    subst (λ (s : SheetParts). IsAccepted s plan) c.deref.ensures (rw c.into_plan-plan.ensures.exact c.in_ok-plan.ensures.accepted) in
    let version : plan.version ≡ sheet.version =
    subst (λ (s : SheetParts). plan.version ≡ s.version) c.deref.ensures (rw c.into_plan-plan.ensures.exact c.in_ok-plan.ensures.version) in
    tried sheet plan c.install.result (entries c.args.mover.now) (entries c.snapshot.new.self) (entries c.install.new.self)
    (accepted_fits sheet plan accepted version) c.in_ok-sheet.ensures.entries c.install.ensures.entries
