use Rattle.std.proofs.Common.{Ok, inr, refl, ◌∙◌, sym, length, ap}
use Rattle.std.proofs.lemmas.List.{length-map}
use Rattle.lb_desk_ports.specs.declared.refused.Refused.TheVariants.{Memory}
use Rattle.command_socket_serve.specs.Desks.{desk_seen}
use Rattle.command_socket_serve.specs.Refusals.{refused_line}
use Rattle.command_socket_serve.specs.Lines.{empty_line, ended}
use Rattle.command_socket_serve.specs.Outcomes.{only_text}
use Rattle.command_socket_serve.proofs.Printings.{prints_then}
use Rattle.command_socket_serve.proofs.Staying.{all_stay}
use Rattle.command_socket_serve.proofs.Telling.{grows_none}
use Rattle.command_socket_serve.proofs.line.answer_line.Goals as goal

pub returns-in_default-clause-answers : goal.returns-in_default-clause-answers
returns-in_default-clause-answers g c = record {
  outcome = ended (only_text (refused_line Memory));
  is = inr (record { outcome_is = refl; kept = refl; goes_on = refl });
  told = grows_none (g.T.Told.told c.args.told.now);
  prints =
      prints_then c.args.out.now c.print_refused-printed.new.out c.print_end.new.out (Ok tt) c.print_refused-printed.result c.print_end.result
      (refused_line Memory) empty_line c.print_refused-printed.ensures c.print_end.ensures;
}

pub answer_all-requires : goal.answer_all-requires
answer_all-requires g c = sym (length-map c.args.desks.now g.S.Mover.backend) ∙ c.requires.count

pub returns-clause-backends : goal.returns-clause-backends
returns-clause-backends g c =
    let answered = c.answer_all.ensures.answers in
    all_stay (desk_seen g.S.Mover.entries g.S.Mover.planned_now g.S.Mover.backend g.S.Steer.sights) c.args.console.now _ c.args.desks.now c.answer_all.new.desks
    answered.outcome answered.is
