use Rattle.std.proofs.Common.{◌≡◌, ◌<◌, Some, length, get_or, refl, sym, ap, subst, ◌∙◌, arith}
use Rattle.std.specs.Prelude.{slice_get, slice_set}
use Rattle.std.proofs.lemmas.Option.{slice_get_read}
use Rattle.command_socket.specs.declared.resolved.Resolved.{Resolved}
use Rattle.lb_config.specs.ConfigViews.{ConfigView}
use Rattle.command_socket_serve.specs.Answers.{CarriesOutPlain, NamesOneOfPlain, Plans}
use Rattle.command_socket_serve.specs.Desks.{desk_seen}
use Rattle.command_socket_serve.specs.Outcomes.{Does, no_outcome, only_text}
use Rattle.command_socket_serve.proofs.Placing.{get_at}
use Rattle.command_socket_serve.proofs.Printings.{prints_none}
use Rattle.command_socket_serve.proofs.Telling.{grows_none}
use Rattle.command_socket_serve.proofs.answers.carry_out_plain.Goals as goal

pub returns-in-Plan-clause-carries_out : goal.returns-in-Plan-clause-carries_out
returns-in-Plan-clause-carries_out g c =
    let seen = desk_seen g.S.Mover.entries g.S.Mover.planned_now g.S.Mover.backend g.S.Steer.sights in
    let desks = c.args.desks.now in
    let place = c.in-Plan.place in
    let old = get_or desks place c.index-desks-place-in-Plan.result in
    let one : place < length c.args.console.now.config.backends = subst (NamesOneOfPlain (length c.args.console.now.config.backends)) c.in-Plan.is c.requires.names in
    let within : place < length desks = omega (arith, one, c.requires.seats) in
    let tries : c.from-tries.result ≡ c.args.console.now.config.tries = c.from-tries.ensures ∙ (c.tries.ensures.exact ∙ ap (λ (v : ConfigView). v.tries) c.config.ensures) in
    let plans = subst (λ n. Plans n (seen old) (seen c.plan.new.desk) c.plan.ensures.text) tries c.plan.ensures.is in
    subst (λ (command : Resolved). Does (CarriesOutPlain seen c.args.console.now command desks (slice_set desks place c.plan.new.desk))
    (g.T.Told.told c.args.told.now) (g.T.Told.told c.args.told.now) c.args.out.now c.args.sent c.plan.new.out c.plan.result) (sym c.in-Plan.is)
    (record {
      outcome = only_text c.plan.ensures.text;
      is = (record { old = old; new = c.plan.new.desk; there = get_at desks place c.index-desks-place-in-Plan.result within; others = refl; is = plans }, refl);
      told = grows_none (g.T.Told.told c.args.told.now);
      prints = c.plan.ensures.prints;
    })

pub returns-in-Show-clause-carries_out : goal.returns-in-Show-clause-carries_out
returns-in-Show-clause-carries_out g c =
    let seen = desk_seen g.S.Mover.entries g.S.Mover.planned_now g.S.Mover.backend g.S.Steer.sights in
    let desks = c.args.desks.now in
    let place = c.in-Show.place in
    let names = c.args.console.now.names in
    let named = c.index-names-place-in-Show.result in
    let old = get_or desks place c.index-desks-place-in-Show.result in
    let one : place < length c.args.console.now.config.backends = subst (NamesOneOfPlain (length c.args.console.now.config.backends)) c.in-Show.is c.requires.names in
    let within : place < length names = omega (arith, one, c.names-in-Show.ensures.all.count) in
    let among : place < length desks = omega (arith, one, c.requires.seats) in
    let read = rw c.names-in-Show.ensures.exact at c.index-names-place-in-Show.is in
    let there : slice_get names place ≡ Some named = slice_get_read names (length names) place named refl within read in
    subst (λ (command : Resolved). Does (CarriesOutPlain seen c.args.console.now command desks (slice_set desks place c.show.new.desk))
    (g.T.Told.told c.args.told.now) (g.T.Told.told c.args.told.now) c.args.out.now c.args.sent c.show.new.out c.show.result) (sym c.in-Show.is)
    (record {
      outcome = only_text c.show.ensures.text;
      is = (
        named,
        there,
        record { old = old; new = c.show.new.desk; there = get_at desks place c.index-desks-place-in-Show.result among; others = refl; is = c.show.ensures.is },
        refl,
      );
      told = grows_none (g.T.Told.told c.args.told.now);
      prints = c.show.ensures.prints;
    })

pub returns-in-Stop-clause-carries_out : goal.returns-in-Stop-clause-carries_out
returns-in-Stop-clause-carries_out g c =
    let seen = desk_seen g.S.Mover.entries g.S.Mover.planned_now g.S.Mover.backend g.S.Steer.sights in
    let desks = c.args.desks.now in
    subst (λ (command : Resolved). Does (CarriesOutPlain seen c.args.console.now command desks desks)
    (g.T.Told.told c.args.told.now) (g.T.Told.told c.args.told.now) c.args.out.now c.args.sent c.args.out.now c.args.sent) (sym c.in-Stop.is)
    (record {
      outcome = no_outcome;
      is = (refl, refl);
      told = grows_none (g.T.Told.told c.args.told.now);
      prints = prints_none c.args.out.now c.args.sent;
    })
