use Rattle.std.proofs.Common.{◌≡◌, ◌+◌, ◌*◌, ◌<◌, ◌≤◌, ℕ, length, refl, sym, ap, subst, ◌∙◌, arith}
use Rattle.std.proofs.Math.Nat.{mul-le-mul_right}
use Rattle.flow_planner_net.specs.Networks.{options, size}
use Rattle.flow_planner_net.specs.States.{used_of}
use Rattle.flow_planner_repair.specs.LeastArcs.{KnownAreSame, AreFound, StaleAreListed}
use Rattle.flow_planner_repair.proofs.ArcSteps.{IsFinding, finding_start, finding_all, finding_past_all, unused-of}
use Rattle.flow_planner_repair.proofs.arcs.Arcs.find.Goals as goal
use Rattle.flow_planner_repair.proofs.arcs.Arcs.find.Goals.{then-has_pins, else-has_pins}

pub loop-from-init : goal.loop-from-init
loop-from-init c =
    let network = c.args.network.now in
    let used = used_of (size network) c.args.counts.now in
    record {
      within = omega arith;
      arcs = c.requires.arcs;
      finding = finding_start network used c.args.source c.args.self.now.fresh c.args.self.now.least c.requires.none c.requires.groups;
      fresh = refl;
      looks = omega arith;
      looks_stay = omega arith;
    }

pub find_among-requires : goal.find_among-requires
find_among-requires c =
    let network = c.args.network.now in
    let here = c.loop-from in
    let all = c.size-size.ensures.exact in
    let within : here.from + c.min-many.result ≤ size network = omega (arith, all, c.min-many.ensures, here.invariant.within) in
    record {
      source = c.requires.source;
      within = within;
      targets = c.requires.targets;
      listed = subst (λ fresh. StaleAreListed (options network) fresh c.args.source c.args.targets.now (length c.args.targets.now)) (sym here.invariant.fresh) c.requires.listed;
      short = c.requires.short;
      arcs = here.invariant.arcs;
      table = c.requires.table;
      groups = here.invariant.finding.of_groups;
      few = omega (arith, here.invariant.looks, c.requires.few, mul-le-mul_right (options network) within);
    }

pub loop-from-preserved : goal.loop-from-preserved
loop-from-preserved c =
    let network = c.args.network.now in
    let old = c.args.self.now in
    let here = c.loop-from in
    let used = used_of (size network) c.args.counts.now in
    let source = c.args.source in
    let from = here.from in
    let many = c.min-many.result in
    let all = c.size-size.ensures.exact in
    let within : from + many ≤ size network = omega (arith, all, c.min-many.ensures, here.invariant.within) in
    let row : source + 1 ≤ options network = omega (arith, c.requires.source) in
    let rows : (source * c.size-size.result + from) + many ≤ length c.args.counts.now =
    rw all (omega (arith, within, c.requires.table, mul-le-mul_right (size network) row)) in
    elim c.if-has_pins.branch [
      | then-has_pins w ↦
          let made = w.find_among.ensures in
          rw w.self-is (record {
            within = within;
            arcs = made.arcs;
            finding = finding_all network used source old.fresh old.least here.self.least w.find_among.new.self.least from many here.invariant.finding made.groups made.others
                (subst (λ fresh. KnownAreSame (options network) source fresh here.self.least w.find_among.new.self.least) here.invariant.fresh made.known)
                (subst (λ fresh. AreFound network used from source here.self.least fresh → AreFound network used (from + many) source w.find_among.new.self.least fresh) here.invariant.fresh made.found);
            fresh = made.fresh ∙ here.invariant.fresh;
            looks = omega (arith, made.looks, here.invariant.looks);
            looks_stay = omega (arith, made.looks_stay, here.invariant.looks_stay);
          })
      | else-has_pins w ↦
          let none : (i : ℕ) → i < many → used source (from + i) ≤ 0 =
          unused-of (size network) c.args.counts.now source from many (source * c.size-size.result + from) (source * c.size-size.result + from + many)
          (ap (λ n. source * n + from) all) refl (omega (arith, rows)) (c.has_pins.ensures w.if-has_pins.false) in
          rw w.self-is (record {
            within = within;
            arcs = here.invariant.arcs;
            finding = finding_past_all network used source old.fresh old.least here.self.least from many none here.invariant.finding;
            fresh = here.invariant.fresh;
            looks = omega (arith, here.invariant.looks);
            looks_stay = here.invariant.looks_stay;
          })
    ]

pub returns : goal.returns
returns c =
    let network = c.args.network.now in
    let old = c.args.self.now in
    let here = c.loop-from in
    let used = used_of (size network) c.args.counts.now in
    let source = c.args.source in
    let all : here.from ≡ size network = omega (arith, c.size-size.ensures.exact, here.invariant.within) in
    let done : IsFinding network used source old.fresh old.least here.self.least (size network) =
    subst (λ n. IsFinding network used source old.fresh old.least here.self.least n) all here.invariant.finding in
    let many : here.from * options network ≡ size network * options network = ap (λ k. k * options network) all in
    record {
      arcs = here.invariant.arcs;
      found = done.found;
      known = done.known;
      others = done.others;
      fresh = here.invariant.fresh;
      looks = omega (arith, here.invariant.looks);
      looks_stay = here.invariant.looks_stay;
    }
