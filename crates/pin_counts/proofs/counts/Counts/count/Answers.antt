use Rattle.std.proofs.Common.{ℕ, Option, unwrap_or, ap, sym, ◌∙◌}
use Rattle.pin_counts.specs.Counts.{count_of}
use Rattle.pin_counts.proofs.Numbers.{count}
use Rattle.pin_counts.proofs.counts.Counts.count.Goals as goal

pub returns : goal.returns
returns g c =
    c.unwrap_or.ensures
    ∙ (ap (λ (o : Option ℕ). unwrap_or o 0) (c.copied.ensures ∙ c.get.ensures.value)
    ∙ (sym (count g.K.PartialEq.eq g.K.Ord.cmp g.met.K.Ord.total g.met.K.Ord.matches_eq c.args.kind c.self.inside.counts.entries c.self.invariant.rising)
    ∙ ap (λ es. count_of g.K.PartialEq.eq es c.args.kind) c.self.view_is))
