use Rattle.std.proofs.Common.{◌≡◌, Ok, length, take}
use Rattle.command_socket_serve.specs.Desks.{desk_seen}
use Rattle.command_socket_serve.specs.Lines.{AreAnswered}
use Rattle.command_socket_serve.specs.Outcomes.{Does}
use Rattle.command_socket_serve.proofs.line.answer_all.Given as goal

abbrev pub invariant-loop-said : goal.invariant-loop-said
invariant-loop-said g l = record {
  does :
      Does (AreAnswered (desk_seen g.S.Mover.entries g.S.Mover.planned_now g.S.Mover.backend g.S.Steer.sights) l.console (take l.said-index l.commands) l.fn.desks l.desks)
      (g.T.Told.told l.fn.told) (g.T.Told.told l.told) l.fn.out (Ok tt) l.out l.printed;
  seats : length l.desks ≡ length l.fn.desks;
}
