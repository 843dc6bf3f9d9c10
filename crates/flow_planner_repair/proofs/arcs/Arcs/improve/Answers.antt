use Rattle.std.proofs.Common.{◌≡◌, ◌≤◌, ◌+◌, ◌*◌, ℕ, Some, None, set, length, refl, ap, sym, subst, ◌∙◌, arith, length-set}
use Rattle.flow_planner_net.specs.Networks.{options, cost}
use Rattle.flow_planner_net.proofs.Numbers.{cost-le}
use Rattle.flow_planner_repair.specs.LeastArcs.{ArcsParts, least_of, IsLeast}
use Rattle.flow_planner_repair.proofs.ArcSteps.{IsImproved, improved}
use Rattle.flow_planner_repair.proofs.ArcSteps as steps
use Rattle.flow_planner_repair.proofs.arcs.Arcs.improve.Goals as goal
use Rattle.flow_planner_repair.proofs.arcs.Arcs.improve.Goals.{in-Some+else-cost, in_default}

pub overflow_add-cost : goal.overflow_add-cost
overflow_add-cost c =
    let network = c.args.network.now in
    let lawful = c.options-width.ensures.lawful in
    let known : least_of (options network) c.args.self.now.least c.args.source c.args.target ≡ Some c.in-Some.best =
    rw (← c.options-width.ensures.exact) (sym c.in-Some.ensures) in
    let there = c.requires.groups c.args.target c.in-Some.best c.requires.target known in
    let low = lawful.low in
    omega (arith, low, cost-le network lawful c.in-Some.best c.args.target there, cost-le network lawful c.args.group c.args.source c.requires.group)

pub overflow_add-cost-in-Some : goal.overflow_add-cost-in-Some
overflow_add-cost-in-Some c =
    let network = c.args.network.now in
    let lawful = c.options-width.ensures.lawful in
    let known : least_of (options network) c.args.self.now.least c.args.source c.args.target ≡ Some c.in-Some.best =
    rw (← c.options-width.ensures.exact) (sym c.in-Some.ensures) in
    let there = c.requires.groups c.args.target c.in-Some.best c.requires.target known in
    let low = lawful.low in
    omega (arith, low, cost-le network lawful c.in-Some.best c.args.source there, cost-le network lawful c.args.group c.args.target c.requires.group)

pub returns-then-cost : goal.returns-then-cost
returns-then-cost c =
    let network = c.args.network.now in
    let known : least_of (options network) c.args.self.now.least c.args.source c.args.target ≡ Some c.in-Some.best =
    rw (← c.options-width.ensures.exact) (sym c.in-Some.ensures) in
    record {
      arcs = c.requires.arcs;
      groups = c.requires.groups;
      others = λ o k within ne. refl;
      other_targets = λ k within ne. refl;
      fresh = refl;
      looks = refl;
      found = λ used some before.
          let was = subst (λ arc. IsLeast network used c.args.group c.args.source c.args.target arc) known before in
          subst (λ arc. IsLeast network used (c.args.group + 1) c.args.source c.args.target arc) (sym known)
          (steps.least-kept network used c.args.group c.args.source c.args.target c.in-Some.best (omega arith) was);
    }

pub returns : goal.returns
returns c =
    let network = c.args.network.now in
    let source = c.args.source in
    let target = c.args.target in
    let group = c.args.group in
    let old = c.args.self.now.least in
    let same : c.self.inside.least.items ≡ old = ap (λ (arcs : ArcsParts). arcs.least) c.self.view_is in
    let less : (best : ℕ) → least_of (options network) old source target ≡ Some best → cost network group target + cost network best source ≤ cost network best target + cost network group source =
    λ best is.
    elim c.match-least.branch [
      | in-Some+else-cost w ↦
          let known : least_of (options network) old source target ≡ Some w.in-Some.best = rw (← c.options-width.ensures.exact) (sym w.in-Some.ensures) in
          let both : Some w.in-Some.best ≡ Some best = sym known ∙ is in
          let one : w.in-Some.best ≡ best = cc in
          omega (arith, ap (λ best. cost network best source) one, ap (λ best. cost network best target) one)
      | in_default w ↦
          let none : None ≡ least_of (options network) old source target = rw (← c.options-width.ensures.exact) w.in_default.ensures in
          let both : None ≡ Some best = none ∙ is in
          absurd cc
    ] in
    let made : IsImproved network old (set c.self.inside.least.items (source * c.options-width.result + target) (Some group)) source target group =
    rw (same, c.options-width.ensures.exact) (improved network old source target group c.requires.arcs.pairs c.requires.source c.requires.target c.requires.group c.requires.allowed c.requires.groups less) in
    record {
      arcs = record {
        pairs = omega (arith, length-set c.self.inside.least.items (source * c.options-width.result + target) (Some group), c.requires.arcs.pairs, ap length same);
        marks = omega (arith, c.requires.arcs.marks, ap (λ (arcs : ArcsParts). length arcs.fresh) c.self.view_is);
      };
      groups = made.groups;
      others = made.others;
      other_targets = made.other_targets;
      fresh = ap (λ (arcs : ArcsParts). arcs.fresh) c.self.view_is;
      looks = ap (λ (arcs : ArcsParts). arcs.looks) c.self.view_is;
      found = made.found;
    }
