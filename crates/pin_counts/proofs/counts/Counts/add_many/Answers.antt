use Rattle.std.proofs.Common.{◌≡◌, ℕ, ◌+◌, ◌<◌, Option, Some, unwrap_or, ap, sym, ◌∙◌, subst, arith}
use Rattle.pin_counts.specs.Counts.{count_of, HasMore}
use Rattle.pin_counts.proofs.Numbers.{count, some_is, many_more, number_at}
use Rattle.std.proofs.lemmas.Map.Views.{All-values-set_value, All-values-insert_entry}
use Rattle.std.specs.BTreeMap.{is_at}
use Rattle.pin_counts.proofs.counts.Counts.add_many.Goals as goal

pub overflow_add-count : goal.overflow_add-count
overflow_add-count g c =
    let n : count_of g.K.PartialEq.eq c.args.self.now c.args.kind ≡ c.in-Some.count.now =
    ap (λ es. count_of g.K.PartialEq.eq es c.args.kind) (sym c.self.view_is)
    ∙ (count g.K.PartialEq.eq g.K.Ord.cmp g.met.K.Ord.total g.met.K.Ord.matches_eq c.args.kind c.self.inside.counts.entries c.self.invariant.rising
    ∙ ap (λ (o : Option ℕ). unwrap_or o 0) (sym c.in-Some.ensures.value)) in
    omega (arith, c.requires.fits)

pub invariant_of-self : goal.invariant_of-self
invariant_of-self g c =
    let holds = c.get_mut.follows.holds (c.in-Some.count.now + c.args.more) in
    record {
      rising = holds.4;
      present = rw holds.0 (All-values-set_value (is_at (g.K.Ord.cmp c.args.kind)) (λ n. 0 < n) c.self.inside.counts.entries (c.in-Some.count.now + c.args.more) c.self.invariant.present (omega (arith, c.requires.some)));
    }

pub returns-in-Some-clause-ok : goal.returns-in-Some-clause-ok
returns-in-Some-clause-ok g c =
    let holds = c.get_mut.follows.holds (c.in-Some.count.now + c.args.more) in
    let new = (c.get_mut.follows.lender (c.in-Some.count.now + c.args.more)).entries in
    let there = some_is _ c.in-Some.count.now c.in-Some.ensures.value in
    subst (λ es. HasMore g.K.PartialEq.eq es c.args.kind c.args.more new) c.self.view_is
    (many_more g.K.PartialEq.eq g.K.Ord.cmp g.met.K.Ord.total g.met.K.Ord.matches_eq c.args.kind c.args.more (Some (c.in-Some.count.now + c.args.more)) c.self.inside.counts.entries new
    c.self.invariant.rising holds.4 (holds.3 there).0 (ap (λ (o : Option ℕ). unwrap_or o 0 + c.args.more) c.in-Some.ensures.value))

pub returns-in_err-insert-clause-no_memory : goal.returns-in_err-insert-clause-no_memory
returns-in_err-insert-clause-no_memory g c some =
    let none : count_of g.K.PartialEq.eq c.args.self.now c.args.kind ≡ 0 =
    ap (λ es. count_of g.K.PartialEq.eq es c.args.kind) (sym c.self.view_is)
    ∙ (count g.K.PartialEq.eq g.K.Ord.cmp g.met.K.Ord.total g.met.K.Ord.matches_eq c.args.kind c.self.inside.counts.entries c.self.invariant.rising
    ∙ ap (λ (o : Option ℕ). unwrap_or o 0) (sym c.in_default.ensures.value)) in
    absurd (omega arith)

pub invariant_of-self-2 : goal.invariant_of-self-2
invariant_of-self-2 g c = record {
  rising = c.in_ok-insert.ensures.ordered;
  present = rw (c.in_ok-insert.ensures.entries, c.get_mut.follows.holds-at-none) (All-values-insert_entry g.K.Ord.cmp c.args.kind c.args.more (λ n. 0 < n) c.self.inside.counts.entries c.self.invariant.present c.requires.some);
}

pub returns-clause-ok : goal.returns-clause-ok
returns-clause-ok g c =
    let none : number_at g.K.Ord.cmp c.self.inside.counts.entries c.args.kind ≡ 0 = ap (λ (o : Option ℕ). unwrap_or o 0) (sym c.in_default.ensures.value) in
    let number : c.args.more ≡ number_at g.K.Ord.cmp c.self.inside.counts.entries c.args.kind + c.args.more = omega arith in
    subst (λ es. HasMore g.K.PartialEq.eq es c.args.kind c.args.more c.insert.new.self.entries) c.self.view_is
    (many_more g.K.PartialEq.eq g.K.Ord.cmp g.met.K.Ord.total g.met.K.Ord.matches_eq c.args.kind c.args.more (Some c.args.more) c.self.inside.counts.entries c.insert.new.self.entries
    c.self.invariant.rising c.in_ok-insert.ensures.ordered (rw c.get_mut.follows.holds-at-none at c.in_ok-insert.ensures.updates.0) number)
