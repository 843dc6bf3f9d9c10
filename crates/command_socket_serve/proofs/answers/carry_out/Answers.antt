use Rattle.std.proofs.Common.{◌≡◌, ◌<◌, Some, length, get_or, refl, sym, subst, arith}
use Rattle.std.specs.Prelude.{slice_get, slice_set}
use Rattle.std.proofs.lemmas.Option.{slice_get_read}
use Rattle.command_socket.specs.declared.socket.SocketResolved.{SocketResolved}
use Rattle.command_socket_serve.specs.Answers.{CarriesOut, NamesOneOf}
use Rattle.command_socket_serve.specs.Desks.{desk_seen}
use Rattle.command_socket_serve.specs.Outcomes.{Does, only_text}
use Rattle.command_socket_serve.proofs.Placing.{get_at}
use Rattle.command_socket_serve.proofs.Telling.{grows_none}
use Rattle.command_socket_serve.proofs.answers.carry_out.Goals as goal

pub returns-in-Asked-clause-carries_out : goal.returns-in-Asked-clause-carries_out
returns-in-Asked-clause-carries_out g c =
    let seen = desk_seen g.S.Mover.entries g.S.Mover.planned_now g.S.Mover.backend g.S.Steer.sights in
    let desks = c.args.desks.now in
    let place = c.in-Asked.place in
    let names = c.args.console.now.names in
    let named = c.index-names-place.result in
    let old = get_or desks place c.index-desks-place.result in
    let one : place < length c.args.console.now.config.backends = subst (NamesOneOf (length c.args.console.now.config.backends)) c.in-Asked.is c.requires.names in
    let within : place < length names = omega (arith, one, c.names.ensures.all.count) in
    let among : place < length desks = omega (arith, one, c.requires.seats) in
    let read = rw c.names.ensures.exact at c.index-names-place.is in
    let there : slice_get names place ≡ Some named = slice_get_read names (length names) place named refl within read in
    let asked = rw c.moment.ensures at c.ask.ensures in
    subst (λ (command : SocketResolved). Does (CarriesOut seen c.args.console.now command desks (slice_set desks place c.ask.new.desk))
    (g.T.Told.told c.args.told.now) (g.T.Told.told c.args.told.now) c.args.out.now c.args.sent c.ask.new.out c.ask.result) (sym c.in-Asked.is)
    (record {
      outcome = only_text asked.text;
      is = (
        named,
        there,
        record { old = old; new = c.ask.new.desk; there = get_at desks place c.index-desks-place.result among; others = refl; is = asked.is },
        refl,
      );
      told = grows_none (g.T.Told.told c.args.told.now);
      prints = asked.prints;
    })
