use Rattle.std.proofs.Common.{◌≡◌, ◌<◌, ℕ, Option, Some, None, cond, is_some, get_or, length, length-set, ap, sym, ◌∙◌, arith}
use Rattle.std.proofs.lemmas.Option.{slice_get-get_or, get_or_from_slice_get}
use Rattle.keyed_values.specs.Keys.{Keyed}
use Rattle.keyed_values.proofs.Vacancies.{HasKey_within, count_set, vacate, next_is_last}
use Rattle.keyed_values.proofs.keyed.Keyed.take.Goals as goal

pub invariant_of-self : goal.invariant_of-self
invariant_of-self g c =
    let places = c.self.inside.places.items in
    let key = c.args.key in
    let within : key < length places = HasKey_within c.args.self.now places key (ap (λ (s : Keyed _). s.places) (sym c.self.view_is)) c.requires in
    let found = get_or_from_slice_get places key (Some c.in-Some.value) None
    (slice_get-get_or places key c.index_mut.result.now within ∙ ap Some (sym c.index_mut.ensures.value ∙ sym c.take.ensures.value ∙ c.in-Some.is)) in
    rw (c.take.ensures.after, c.push_reserved.ensures.items) (
      vacate places c.self.inside.vacant.items key c.in-Some.value within found c.self.invariant.0,
      omega (arith, c.self.invariant, length-set places key None),
      omega (arith, c.self.invariant),
      omega (arith, c.self.invariant, c.push_reserved.ensures.capacity),
    )

pub returns-clause-next : goal.returns-clause-next
returns-clause-next g c = rw c.push_reserved.ensures.items (next_is_last _ c.self.inside.vacant.items c.args.key)

pub returns-clause-room : goal.returns-clause-room
returns-clause-room g c =
    let places = c.self.inside.places.items in
    let key = c.args.key in
    let within : key < length places = HasKey_within c.args.self.now places key (ap (λ (s : Keyed _). s.places) (sym c.self.view_is)) c.requires in
    let found = get_or_from_slice_get places key (Some c.in-Some.value) None
    (slice_get-get_or places key c.index_mut.result.now within ∙ ap Some (sym c.index_mut.ensures.value ∙ sym c.take.ensures.value ∙ c.in-Some.is)) in
    let counts = count_set places key None within in
    let was : cond {A = ℕ} (is_some (get_or places key None)) 1 0 ≡ 1 = ap (λ (o : Option _). cond (is_some o) 1 0) found in
    rw c.take.ensures.after (omega (arith, counts, was, c.self.invariant, c.self.invariant.0.counted))
