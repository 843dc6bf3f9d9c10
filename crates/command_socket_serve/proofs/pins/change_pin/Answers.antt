use Rattle.std.proofs.Common.{◌≡◌, true, false, Ok, Err, [], refl, sym, ◌∙◌}
use Rattle.command_socket_serve.specs.Refusals.{refused_line}
use Rattle.command_socket_serve.specs.Tasks.{is_changed, pin_text}
use Rattle.command_socket_serve.proofs.Printings.{prints_none}
use Rattle.command_socket_serve.proofs.pins.change_pin.Goals as goal

pub returns-in-Err : goal.returns-in-Err
returns-in-Err g c = record {
  text = refused_line c.in-Err.refused;
  is = record {
    reply = Err c.in-Err.refused;
    adds = c.in-Err.ensures.entries;
    planned_now = c.in-Err.ensures.planned_now;
    backend = c.in-Err.ensures.backend;
    sights = c.in-Err.ensures.sights;
    text_is = refl;
  };
  prints = c.print_refused.ensures;
}

pub returns-then-is_changed : goal.returns-then-is_changed
returns-then-is_changed g c =
    let changed : is_changed c.in-Ok.reply ≡ true = sym c.is_changed.ensures ∙ c.if-is_changed.true in
    record {
      text = [];
      is = record {
        reply = Ok c.in-Ok.reply;
        adds = c.in-Ok.ensures.entries;
        planned_now = c.in-Ok.ensures.planned_now;
        backend = c.in-Ok.ensures.backend;
        sights = c.in-Ok.ensures.sights;
        text_is = rw changed refl;
      };
      prints = prints_none c.args.out.now c.args.sent;
    }

pub returns : goal.returns
returns g c =
    let other : is_changed c.in-Ok.reply ≡ false = sym c.is_changed.ensures ∙ c.if-is_changed.false in
    record {
      text = pin_text c.args.named.now c.args.change.now (Ok c.in-Ok.reply);
      is = record {
        reply = Ok c.in-Ok.reply;
        adds = c.in-Ok.ensures.entries;
        planned_now = c.in-Ok.ensures.planned_now;
        backend = c.in-Ok.ensures.backend;
        sights = c.in-Ok.ensures.sights;
        text_is = refl;
      };
      prints = rw (other, ← c.server_of.ensures) c.print_reply.ensures;
    }
