use Rattle.std.proofs.Common.{◌≡◌, true, false, Ok, Err, [], ◌∷◌, refl, sym, ◌∙◌}
use Rattle.command_socket_serve.specs.Answers.{change_text, is_done}
use Rattle.command_socket_serve.specs.Refusals.{refused_line}
use Rattle.command_socket_serve.specs.Outcomes.{only_text}
use Rattle.command_socket_serve.proofs.Printings.{prints_none}
use Rattle.command_socket_serve.proofs.Telling.{grows_none}
use Rattle.command_socket_serve.proofs.answers.change.Goals as goal

pub returns-in-Err : goal.returns-in-Err
returns-in-Err g c = record {
  outcome = only_text (refused_line c.in-Err.refused);
  is = record {
    reply = Err c.in-Err.refused;
    entries = c.in-Err.ensures.entries;
    planned_now = c.in-Err.ensures.planned_now;
    backend = c.in-Err.ensures.backend;
    sights = c.in-Err.ensures.sights;
    text = refl;
    changed = refl;
  };
  told = grows_none (g.T.Told.told c.args.told.now);
  prints = c.print_refused.ensures;
}

pub returns-then-is_done : goal.returns-then-is_done
returns-then-is_done g c =
    let done : is_done c.in-Ok.reply ≡ true = sym c.is_done.ensures ∙ c.if-is_done.true in
    record {
      outcome = record { text = []; changed = c.args.place ∷ [] };
      is = record {
        reply = Ok c.in-Ok.reply;
        entries = c.in-Ok.ensures.entries;
        planned_now = c.in-Ok.ensures.planned_now;
        backend = c.in-Ok.ensures.backend;
        sights = c.in-Ok.ensures.sights;
        text = rw done refl;
        changed = rw done refl;
      };
      told = c.changed.ensures;
      prints = prints_none c.args.out.now c.args.sent;
    }

pub returns : goal.returns
returns g c =
    let other : is_done c.in-Ok.reply ≡ false = sym c.is_done.ensures ∙ c.if-is_done.false in
    let text = change_text c.args.named.now c.args.asked.now.server (Ok c.in-Ok.reply) in
    record {
      outcome = only_text text;
      is = record {
        reply = Ok c.in-Ok.reply;
        entries = c.in-Ok.ensures.entries;
        planned_now = c.in-Ok.ensures.planned_now;
        backend = c.in-Ok.ensures.backend;
        sights = c.in-Ok.ensures.sights;
        text = refl;
        changed = rw other refl;
      };
      told = grows_none (g.T.Told.told c.args.told.now);
      prints = rw other c.print_reply.ensures;
    }
