use Rattle.std.proofs.Common.{◌≡◌, ℕ, Option, unwrap_or, All, ap, sym, ◌∙◌, subst}
use Rattle.pin_counts.specs.Counts.{count_of}
use Rattle.pin_counts.proofs.Numbers.{count}
use Rattle.pin_counts.proofs.counts.Counts.iter.Goals as goal

pub returns-clause-exact : goal.returns-clause-exact
returns-clause-exact g c =
    subst (λ es. All (λ (e : g.row.K.Denot × ℕ). e.1 ≡ count_of g.K.PartialEq.eq es e.0) es) c.self.view_is
    (λ k d within.
    sym (count g.K.PartialEq.eq g.K.Ord.cmp g.met.K.Ord.total g.met.K.Ord.matches_eq _ c.self.inside.counts.entries c.self.invariant.rising
    ∙ ap (λ (o : Option ℕ). unwrap_or o 0) (c.iter.ensures.found k d within)))
