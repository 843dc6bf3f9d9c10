use Rattle.std.proofs.Common.{arith, take, ◌-◌}
use Rattle.std.proofs.lemmas.Grind.{common_steps}
use Rattle.http_relay_wire.proofs.Rooms.{read_behind}
use Rattle.http_relay_body.proofs.chunks.room.take_behind.Goals as goal

pub returns-in-Ok-clause-took : goal.returns-in-Ok-clause-took
returns-in-Ok-clause-took g c =
    let within = c.in-Ok.ensures.within in (
      take c.in-Ok.count c.take.new.room,
      (
        c.in-Ok.ensures.taken,
        grind (arith, common_steps, within, c.take.auto.room, c.min-end.ensures, c.saturating_add.ensures, c.requires.room),
        c.in-Ok.ensures.fewer,
      ),
      read_behind c.args.bytes.now c.take.new.room c.args.filled (c.min-end.result - c.args.filled) c.in-Ok.count (omega (arith, c.requires.room)) within,
      grind (arith, common_steps, within, c.take.auto.room, c.min-end.ensures, c.saturating_add.ensures, c.requires.room),
    )
