use Rattle.std.proofs.Common.{inl, refl}
use Rattle.lb_answers.specs.Answers.{answer_text}
use Rattle.lb_answers.specs.Journals.{last_installed, plan_text}
use Rattle.command_socket_serve.specs.Desks.{desk_seen}
use Rattle.command_socket_serve.proofs.shows.show_plan.Goals as goal

pub returns-in-Ok : goal.returns-in-Ok
unfolding answer_text
returns-in-Ok g c =
    let seen = desk_seen g.S.Mover.entries g.S.Mover.planned_now g.S.Mover.backend g.S.Steer.sights in
    record {
      text = plan_text (last_installed c.deref.result.now);
      is = record {
        shown = inl (c.in-Ok.journal.first, c.deref.result.now, rw c.deref.ensures.value c.in-Ok.ensures.journal, refl);
        kept = record { entries = c.in-Ok.ensures.entries; planned_now = c.in-Ok.ensures.planned_now; backend = c.in-Ok.ensures.backend; sights = c.in-Ok.ensures.sights };
      };
      prints = rw (← c.last_installed.ensures) c.print.ensures;
    }
