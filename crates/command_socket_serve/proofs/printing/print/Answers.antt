use Rattle.lb_answers.specs.Answers.{answer_text}
use Rattle.command_socket_serve.proofs.Printings.{prints_piece}
use Rattle.command_socket_serve.proofs.printing.print.Goals as goal

pub returns : goal.returns
returns g c =
    let old = c.args.out.now in
    let new = c.write_answer.new.out in
    let text = answer_text c.args.answer.now in
    rw c.in_ok-sent.was
    (prints_piece old new c.write_answer.result text c.write_answer.ensures.whole c.write_answer.ensures.failed c.write_answer.ensures.front)
