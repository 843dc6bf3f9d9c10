use Rattle.std.proofs.Common.{Ok, refl, ◌∙◌}
use Rattle.command_socket_serve.specs.Desks.{desk_seen}
use Rattle.command_socket_serve.proofs.Answering.{does_more, does_none}
use Rattle.command_socket_serve.proofs.line.answer_all.Goals as goal

pub loop-said-init : goal.loop-said-init
loop-said-init g c = record {
  does = does_none (desk_seen g.S.Mover.entries g.S.Mover.planned_now g.S.Mover.backend g.S.Steer.sights) c.args.console.now (g.T.Told.told c.args.told.now) c.args.out.now (Ok tt) c.args.desks.now;
  seats = refl;
}

pub loop-said-preserved : goal.loop-said-preserved
loop-said-preserved g c = record {
  does =
      does_more (desk_seen g.S.Mover.entries g.S.Mover.planned_now g.S.Mover.backend g.S.Steer.sights) c.args.console.now (g.T.Told.told c.args.told.now) c.args.out.now
      c.args.commands.now c.loop-said.said-index _ c.args.desks.now c.loop-said.desks _
      (g.T.Told.told c.loop-said.told) _ c.loop-said.out _ _ c.loop-said.printed _ _
      c.loop-said-test.true c.said-item.is c.loop-said.invariant.does c.answer-printed.ensures.answers c.print_end-printed.ensures;
  seats = c.answer-printed.ensures.seats ∙ c.loop-said.invariant.seats;
}
