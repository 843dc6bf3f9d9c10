use Rattle.std.proofs.Common.{◌≡◌, ◌∙◌, length, sym, arith}
use Rattle.std.proofs.lemmas.List.{length-map}
use Rattle.lb_run_threads.proofs.threads.serve_seated.Goals as goal

pub work-requires : goal.work-requires
work-requires g c =
    let as_many : length c.args.seats.items ≡ length c.args.floor.now.config.now.backends =
    sym (length-map c.args.seats.items g.D.Seat.Mover.backend) ∙ c.requires.desks.count in
    omega (arith, as_many)
