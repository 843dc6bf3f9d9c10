use Rattle.std.proofs.Common.{◌≡◌, ℕ, Some, None, is_some, cond, get_or, length, length-set, ap, sym, ◌∙◌, subst, arith}
use Rattle.std.proofs.lemmas.List.{get_or-set_same, get_or-set_other}
use Rattle.keyed_values.specs.Vacancies.{IsSound, next_of}
use Rattle.keyed_values.proofs.Vacancies.{fill, is_vacant, next_is_last, count_set}
use Rattle.keyed_values.proofs.keyed.Keyed.insert.Goals as goal

pub invariant_of-self-2 : goal.invariant_of-self-2
invariant_of-self-2 g c =
    let places = c.self.inside.places.items in
    let key = c.in-Some.key in
    let sound = subst (IsSound places) c.in-Some.ensures.items c.self.invariant.0 in
    rw c.replace.ensures.after (
      fill places c.pop.new.self.items key c.args.value sound,
      omega (arith, c.self.invariant, length-set places key (Some c.args.value)),
      omega (arith, c.self.invariant),
      omega (arith, c.self.invariant, c.pop.ensures.capacity),
    )

pub returns-clause-key : goal.returns-clause-key
returns-clause-key g c =
    let places = c.self.inside.places.items in
    rw (← c.self.view_is) (sym (ap (next_of (length places)) c.in-Some.ensures.items ∙ next_is_last (length places) c.pop.new.self.items c.in-Some.key))

pub returns-clause-updates : goal.returns-clause-updates
returns-clause-updates g c =
    let places = c.self.inside.places.items in
    let key = c.in-Some.key in
    let here = is_vacant places c.pop.new.self.items key (subst (IsSound places) c.in-Some.ensures.items c.self.invariant.0) in
    rw (← c.self.view_is, c.replace.ensures.after) record {
      changed = get_or-set_same places key (Some c.args.value) None here.0;
      others = λ other differs. get_or-set_other places key other (Some c.args.value) None differs;
    }

pub returns-clause-held : goal.returns-clause-held
returns-clause-held g c =
    let places = c.self.inside.places.items in
    let key = c.in-Some.key in
    let here = is_vacant places c.pop.new.self.items key (subst (IsSound places) c.in-Some.ensures.items c.self.invariant.0) in
    let counts = count_set places key (Some c.args.value) here.0 in
    let was : cond {A = ℕ} (is_some (get_or places key None)) 1 0 ≡ 0 = ap (λ o. cond (is_some o) 1 0) here.1 in
    rw (← c.self.view_is, c.replace.ensures.after) (omega (arith, counts, was))
