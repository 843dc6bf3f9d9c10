use Rattle.std.proofs.Common.{arith, refl, [], ◌<◌, ◌++◌, length, length-append, take, sym, ◌∙◌}
use Rattle.std.proofs.lemmas.Grind.{common_steps}
use Rattle.http_relay_body.specs.Moves.{IsLong, IsSome}
use Rattle.http_relay_body.proofs.Moves.{take_nothing, take_twice, append_nothing, appends_both, fault_handed, skip_some, finishes_some}
use Rattle.http_relay_body.proofs.length.pass.Goals as goal

pub loop-left-init : goal.loop-left-init
loop-left-init g c = record {
  text = [];
  room = c.requires;
  taken = take_nothing _ _;
  size = omega arith;
  fewer = omega arith;
  sent = sym (append_nothing _);
  client = refl;
  server = refl;
  client_written = refl;
  server_reading = refl;
}

pub returns-in_err-passed-clause-moved : goal.returns-in_err-passed-clause-moved
returns-in_err-passed-clause-moved g c =
    let known = c.loop-left.invariant in
    let short : length known.text < c.args.count = omega (arith, known.size, c.loop-left-test.true) in
    let some : 0 < length (take c.min-most.result c.loop-left.room) = grind (arith, common_steps, known.room, c.min-most.ensures, c.loop-left-test.true) in
    fault_handed (IsLong c.args.count) (IsSome (length (take c.min-most.result c.loop-left.room))) _ _ _ _ _ _ _ _ _ _ _ known.text
    c.from_residual.ensures.1 known.taken known.sent
    (skip_some c.args.count (length (take c.min-most.result c.loop-left.room)) known.text short some)
    (finishes_some tt c.args.count (length (take c.min-most.result c.loop-left.room)) known.text
    (grind (arith, common_steps, known.size, c.min-most.ensures))) c.in_err-passed.ensures.moved

pub loop-left-preserved : goal.loop-left-preserved
loop-left-preserved g c =
    let known = c.loop-left.invariant in
    let step = c.in_ok-passed.ensures.moved in
    let within = c.in_ok-passed.ensures.within in
    record {
      text = known.text ++ step.text;
      room = grind (arith, common_steps, known.room, c.pass_some.auto.room, c.min-most.ensures, c.loop-left-test.true);
      taken = take_twice _ _ _ _ _ _ known.text step.text known.taken step.taken;
      size = grind (arith, common_steps, length-append known.text step.text, step.answers.0, known.size, within, c.min-most.ensures);
      fewer = omega (arith, known.fewer, c.in_ok-passed.ensures.fewer);
      sent = appends_both _ _ _ known.text step.text known.sent step.sent;
      client = c.in_ok-passed.ensures.client ∙ known.client;
      server = c.in_ok-passed.ensures.server ∙ known.server;
      client_written = c.in_ok-passed.ensures.client_written ∙ known.client_written;
      server_reading = c.in_ok-passed.ensures.server_reading ∙ known.server_reading;
    }
