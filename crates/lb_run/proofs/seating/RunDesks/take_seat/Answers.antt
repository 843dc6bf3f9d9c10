use Rattle.std.proofs.Common.{◌≡◌, ◌∙◌, ◌<◌, true, nat_lt, length, Some, refl, sym, ap, arith}
use Rattle.std.proofs.lemmas.Bool.Decides.{nat_tests}
use Rattle.std.proofs.lemmas.Option.{slice_get_read}
use Rattle.lb_run.proofs.seating.RunDesks.take_seat.Goals as goal

pub returns-clause-desk : goal.returns-clause-desk
returns-clause-desk g c =
    let desks = c.args.self.now.desks.now in
    let test : nat_lt c.args.place (length desks) ≡ true = sym c.in-Some.ensures.lookup.0 in
    let within : c.args.place < length desks = grind (arith, nat_tests) in
    slice_get_read desks (length desks) c.args.place c.in-Some.desk.now refl within c.in-Some.ensures.lookup.1 ∙ ap Some (sym c.enter.ensures)
