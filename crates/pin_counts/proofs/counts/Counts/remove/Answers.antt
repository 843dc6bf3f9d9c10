use Rattle.std.proofs.Common.{◌≡◌, ℕ, ◌-◌, ◌<◌, Option, Some, None, unwrap_or, ap, sym, ◌∙◌, subst, arith}
use Rattle.pin_counts.specs.Counts.{count_of, HasOneMore}
use Rattle.pin_counts.proofs.Numbers.{count, some_is, one_fewer, number_at}
use Rattle.std.proofs.lemmas.Map.Views.{All-values-set_value, All-map-remove_entry}
use Rattle.std.proofs.lemmas.Map.Steps.{set_value_same}
use Rattle.std.specs.BTreeMap.{is_at}
use Rattle.pin_counts.proofs.counts.Counts.remove.Goals as goal

pub invariant_of-self : goal.invariant_of-self
invariant_of-self g c =
    let holds = c.get_mut.follows.holds (c.in-Some.count.now - 1) in
    let some : 0 < c.in-Some.count.now - 1 = omega (arith, c.if-get_mut-gt1.true) in
    record {
      rising = holds.4;
      present = rw holds.0 (All-values-set_value (is_at (g.K.Ord.cmp c.args.kind)) (λ n. 0 < n) c.self.inside.counts.entries (c.in-Some.count.now - 1) c.self.invariant.present some);
    }

pub invariant_of-self-in-Some-2 : goal.invariant_of-self-in-Some-2
invariant_of-self-in-Some-2 g c =
    let same = (c.get_mut.follows.holds c.in-Some.count.now).0
    ∙ set_value_same (is_at (g.K.Ord.cmp c.args.kind)) c.self.inside.counts.entries c.in-Some.count.now (sym c.in-Some.ensures.value) in
    record {
      rising = c.remove.ensures.ordered;
      present = rw (c.remove.ensures.entries, same) (All-map-remove_entry (is_at (g.K.Ord.cmp c.args.kind)) (λ (e : g.row.K.Denot × ℕ). e.1) (λ n. 0 < n) c.self.inside.counts.entries c.self.invariant.present);
    }

pub returns-in-Some : goal.returns-in-Some
returns-in-Some g c =
    let holds = c.get_mut.follows.holds (c.in-Some.count.now - 1) in
    let new = (c.get_mut.follows.lender (c.in-Some.count.now - 1)).entries in
    let there = some_is _ c.in-Some.count.now c.in-Some.ensures.value in
    let number : c.in-Some.count.now ≡ number_at g.K.Ord.cmp c.self.inside.counts.entries c.args.kind =
    ap (λ (o : Option ℕ). unwrap_or o 0) c.in-Some.ensures.value in
    subst (λ es. HasOneMore g.K.PartialEq.eq new c.args.kind es) c.self.view_is
    (one_fewer g.K.PartialEq.eq g.K.Ord.cmp g.met.K.Ord.total g.met.K.Ord.matches_eq c.args.kind (Some (c.in-Some.count.now - 1)) c.self.inside.counts.entries new
    c.self.invariant.rising holds.4 (holds.3 there).0 (omega (arith, c.if-get_mut-gt1.true, number)))

-- there is one, so that it is the last
pub returns-in-Some-2 : goal.returns-in-Some-2
returns-in-Some-2 g c =
    let same = (c.get_mut.follows.holds c.in-Some.count.now).0
    ∙ set_value_same (is_at (g.K.Ord.cmp c.args.kind)) c.self.inside.counts.entries c.in-Some.count.now (sym c.in-Some.ensures.value) in
    let found : c.in-Some.count.now ≡ number_at g.K.Ord.cmp c.self.inside.counts.entries c.args.kind =
    ap (λ (o : Option ℕ). unwrap_or o 0) c.in-Some.ensures.value in
    let number : count_of g.K.PartialEq.eq c.args.self.now c.args.kind ≡ number_at g.K.Ord.cmp c.self.inside.counts.entries c.args.kind =
    ap (λ es. count_of g.K.PartialEq.eq es c.args.kind) (sym c.self.view_is)
    ∙ count g.K.PartialEq.eq g.K.Ord.cmp g.met.K.Ord.total g.met.K.Ord.matches_eq c.args.kind c.self.inside.counts.entries c.self.invariant.rising in
    subst (λ es. HasOneMore g.K.PartialEq.eq c.remove.new.self.entries c.args.kind es) c.self.view_is
    (one_fewer g.K.PartialEq.eq g.K.Ord.cmp g.met.K.Ord.total g.met.K.Ord.matches_eq c.args.kind None c.self.inside.counts.entries c.remove.new.self.entries
    c.self.invariant.rising c.remove.ensures.ordered (rw same at c.remove.ensures.updates.0) (omega (arith, c.requires, number, found, c.if-get_mut-gt1.false)))

-- there is one, so that this never is
pub returns-in-None : goal.returns-in-None
returns-in-None g c =
    let none : count_of g.K.PartialEq.eq c.args.self.now c.args.kind ≡ 0 =
    ap (λ es. count_of g.K.PartialEq.eq es c.args.kind) (sym c.self.view_is)
    ∙ (count g.K.PartialEq.eq g.K.Ord.cmp g.met.K.Ord.total g.met.K.Ord.matches_eq c.args.kind c.self.inside.counts.entries c.self.invariant.rising
    ∙ ap (λ (o : Option ℕ). unwrap_or o 0) (sym c.in-None.ensures.value)) in
    absurd (omega (arith, c.requires))
