use Rattle.std.proofs.Common.{◌≡◌, Result, Ok, Err, ◌++◌, refl, sym, subst}
use Rattle.std.specs.Prelude.{codes}
use Rattle.command_socket.specs.declared.socket.SocketResolved.{SocketResolved}
use Rattle.command_socket_words.specs.Faults.{fault_text}
use Rattle.command_socket_words.specs.declared.fault.CommandFault.{CommandFault}
use Rattle.command_socket_serve.specs.Answers.{Answers, looked_up}
use Rattle.command_socket_serve.specs.Desks.{desk_seen}
use Rattle.command_socket_serve.specs.Outcomes.{Does, only_text}
use Rattle.command_socket_serve.proofs.Placing.{names_one}
use Rattle.command_socket_serve.proofs.Telling.{grows_none}
use Rattle.command_socket_serve.proofs.answers.answer.Goals as goal

pub carry_out-requires-clause-names : goal.carry_out-requires-clause-names
carry_out-requires-clause-names g c =
    let found : looked_up c.args.console.now.config c.args.said.now ≡ Ok c.in-Ok.command = sym (rw c.config.ensures at c.in-Ok.ensures) in
    names_one c.args.console.now.config c.args.said.now c.in-Ok.command found

pub returns-in-Err-clause-answers : goal.returns-in-Err-clause-answers
returns-in-Err-clause-answers g c =
    let seen = desk_seen g.S.Mover.entries g.S.Mover.planned_now g.S.Mover.backend g.S.Steer.sights in
    let desks = c.args.desks.now in
    let found : Err c.in-Err.fault ≡ looked_up c.args.console.now.config c.args.said.now = rw c.config.ensures at c.in-Err.ensures in
    subst (λ (said : Result SocketResolved CommandFault). Does (Answers seen c.args.console.now said desks desks)
    (g.T.Told.told c.args.told.now) (g.T.Told.told c.args.told.now) c.args.out.now c.args.sent c.print_fault.new.out c.print_fault.result) found
    (record {
      outcome = only_text (fault_text c.in-Err.fault ++ codes "\n");
      is = (refl, refl);
      told = grows_none (g.T.Told.told c.args.told.now);
      prints = c.print_fault.ensures;
    })
