use Rattle.std.proofs.Common.{arith, refl, ◌≡◌, ◌<◌, [], ◌++◌, length, length-append, length-drop, take, subst, sym, ap, length-take-le, ◌∙◌}
use Rattle.std.proofs.lemmas.Grind.{common_steps}
use Rattle.http_relay_body.specs.Moves.{Begins, MayBecome, IsLong, IsSome}
use Rattle.http_relay_body.specs.Rooms.{RoomView}
use Rattle.http_relay_body.proofs.Lines.{empty}
use Rattle.http_relay_body.proofs.Moves.{skip_some, nothing_some, may_some, finishes_some}
use Rattle.http_relay_body.proofs.Rooms.{carry_nothing, carry_twice, carry_judged, stopped_short, handed_later}
use Rattle.http_relay_body.proofs.chunks.data.pass_bytes.Goals as goal

pub loop-left-init : goal.loop-left-init
loop-left-init g c = record {
  done = [];
  carried = carry_nothing _;
  size = omega arith;
  few = omega (arith, c.requires);
  client = refl;
  server = refl;
  client_written = refl;
  server_reading = refl;
}

pub returns-then-left-eq0-clause-passed : goal.returns-then-left-eq0-clause-passed
returns-then-left-eq0-clause-passed g c =
    let known = c.loop-left.invariant in
    let here = take c.min-here.result c.loop-left.room.ahead in
    let within = c.ahead.ensures in
    let size = length-take-le c.min-here.result c.loop-left.room.ahead (grind (arith, common_steps, c.min-here.ensures, ap length within)) in (
      known.done ++ here,
      grind (arith, common_steps, length-append known.done here, size, known.size, c.if-left-eq0.true, c.min-here.ensures),
      carry_twice _ _ _ known.done here known.carried (carry_judged _ _ _ _ _ c.min-here.result c.judge.ensures),
    )

pub loop-left-preserved : goal.loop-left-preserved
loop-left-preserved g c =
    let known = c.loop-left.invariant in
    let here = take c.min-here.result c.loop-left.room.ahead in
    let within = ap length c.ahead.ensures in
    let size = length-take-le c.min-here.result c.loop-left.room.ahead (grind (arith, common_steps, c.min-here.ensures, within)) in
    let judged = carry_twice _ _ _ known.done here known.carried (carry_judged _ _ _ _ _ c.min-here.result c.judge.ensures) in
    let fetched = c.in_ok-fetch.ensures.fetched in
    let grew = fetched.1 in
    let gone = ap (λ (room : RoomView). length room.ahead) c.judge.ensures ∙ length-drop c.min-here.result c.loop-left.room.ahead in
    let sizes = ap length grew.1 ∙ length-append c.judge.new.self.ahead grew.0 in
    record {
      done = (known.done ++ here) ++ [];
      carried = carry_twice _ _ _ (known.done ++ here) [] judged fetched.0;
      size = grind (arith, common_steps, length-append (known.done ++ here) [], length-append known.done here, size, known.size, c.min-here.ensures);
      few = grind (arith, common_steps, sizes, grew.2, gone, within, c.min-here.ensures, c.if-left-eq0.false, c.least_to_come.ensures);
      client = c.in_ok-fetch.ensures.client ∙ known.client;
      server = c.in_ok-fetch.ensures.server ∙ known.server;
      client_written = c.in_ok-fetch.ensures.client_written ∙ known.client_written;
      server_reading = c.in_ok-fetch.ensures.server_reading ∙ known.server_reading;
    }

pub returns-in_err-fetch-clause-passed : goal.returns-in_err-fetch-clause-passed
returns-in_err-fetch-clause-passed g c =
    let known = c.loop-left.invariant in
    let here = take c.min-here.result c.loop-left.room.ahead in
    let within = ap length c.ahead.ensures in
    let size = length-take-le c.min-here.result c.loop-left.room.ahead (grind (arith, common_steps, c.min-here.ensures, within)) in
    let judged = carry_twice _ _ _ known.done here known.carried (carry_judged _ _ _ _ _ c.min-here.result c.judge.ensures) in
    let short : length (known.done ++ here) < c.args.count =
    grind (arith, common_steps, length-append known.done here, size, known.size, c.if-left-eq0.false, c.min-here.ensures) in
    let gone = ap (λ (room : RoomView). length room.ahead) c.judge.ensures ∙ length-drop c.min-here.result c.loop-left.room.ahead in
    let nothing : length c.judge.new.self.ahead ≡ 0 = grind (arith, common_steps, gone, within, c.min-here.ensures, c.if-left-eq0.false) in
    handed_later (IsLong c.args.count) (IsSome 1) _ _ _ (known.done ++ here) _ _ c.from_residual.ensures.1 judged
    (skip_some c.args.count 1 (known.done ++ here) short (omega arith)) (finishes_some tt c.args.count 1 (known.done ++ here) (omega (arith, short)))
    (stopped_short (IsSome 1) c.least_to_come.result _ _ _ (subst (λ text. ¬ Begins (IsSome 1) text) (sym (empty c.judge.new.self.ahead nothing)) (nothing_some 1))
    (subst (λ text. MayBecome (IsSome 1) text) (sym (empty c.judge.new.self.ahead nothing)) (may_some 1 (omega arith))) c.in_err-fetch.ensures.fetched)
