use Rattle.std.proofs.Common.{arith, refl, ◌≡◌, ◌∙◌, [], length, length-append, subst, sym, ap, take}
use Rattle.http_relay_body.specs.Moves.{Begins}
use Rattle.http_relay_body.specs.Parts.{IsPartText, least_from}
use Rattle.http_relay_body.specs.Rooms.{RoomView, MustFollow}
use Rattle.http_relay_body.proofs.Moves.{finishes_same}
use Rattle.http_relay_body.proofs.Rooms.{carry_nothing, carry_twice, carry_judged, stopped_later, stopped_bad, stopped_short, handed_later}
use Rattle.http_relay_body.proofs.Sights.{nothing_part, from_part, leaves, seen_front}
use Rattle.http_relay_body.proofs.Walks.{walked_longer}
use Rattle.http_relay_body.proofs.chunks.part.pass_part.Goals as goal

pub loop-len-init : goal.loop-len-init
loop-len-init g c = record {
  seen = 0;
  least = least_from c.args.part;
  carried = carry_nothing _;
  within = omega arith;
  none = nothing_part c.args.part;
  must = from_part c.args.part;
  few = omega (arith, c.requires);
  walked = c.new-walk.ensures c.args.room.now.ahead;
  client = refl;
  server = refl;
  client_written = refl;
  server_reading = refl;
}

pub returns-in-Whole-clause-passed : goal.returns-in-Whole-clause-passed
returns-in-Whole-clause-passed g c =
    let known = c.loop-len.invariant in
    let sight = rw c.ahead.ensures at (rw c.in-Whole.is at c.look.ensures.sees) in (
      take c.in-Whole.len c.loop-len.room.ahead,
      sight.1,
      carry_twice _ _ _ [] (take c.in-Whole.len c.loop-len.room.ahead) known.carried (carry_judged _ _ _ _ _ c.in-Whole.len c.judge.ensures),
    )

pub returns-in-Whole-clause-ahead : goal.returns-in-Whole-clause-ahead
returns-in-Whole-clause-ahead g c =
    let known = c.loop-len.invariant in
    let sight = rw c.ahead.ensures at (rw c.in-Whole.is at c.look.ensures.sees) in
    let left = leaves c.args.part c.loop-len.room.ahead known.seen known.least c.in-Whole.len c.in-Whole.value known.within known.none known.must known.few sight.0 sight.1 in
    omega (arith, left, ap (λ (room : RoomView). length room.ahead) c.judge.ensures)

pub loop-len-preserved : goal.loop-len-preserved
loop-len-preserved g c =
    let known = c.loop-len.invariant in
    let sight = rw c.ahead.ensures at (rw c.in-Short.is at c.look.ensures.sees) in
    let fetched = c.in_ok-fetch-in-Short.ensures.fetched in
    let grew = fetched.1 in
    let old = c.loop-len.room.ahead in
    let new = c.fetch.new.self.ahead in
    let front : take (length old) new ≡ old = seen_front old new grew.0 grew.1 in
    let sizes = ap length grew.1 ∙ length-append old grew.0 in
    record {
      seen = length old;
      least = c.in-Short.least;
      carried = carry_twice _ _ _ [] [] known.carried fetched.0;
      within = omega (arith, sizes);
      none = subst (λ xs. ¬ Begins (IsPartText c.args.part) xs) (sym front) sight.0;
      must = subst (λ xs. MustFollow c.args.part xs c.in-Short.least) (sym front) sight.3;
      few = omega (arith, sizes, grew.2);
      walked = walked_longer old new grew.0 c.look.new.walk grew.1 (rw c.ahead.ensures at c.look.ensures.walked);
      client = c.in_ok-fetch-in-Short.ensures.client ∙ known.client;
      server = c.in_ok-fetch-in-Short.ensures.server ∙ known.server;
      client_written = c.in_ok-fetch-in-Short.ensures.client_written ∙ known.client_written;
      server_reading = c.in_ok-fetch-in-Short.ensures.server_reading ∙ known.server_reading;
    }

pub returns-in_err-fetch-in-Short-clause-passed : goal.returns-in_err-fetch-in-Short-clause-passed
returns-in_err-fetch-in-Short-clause-passed g c =
    let known = c.loop-len.invariant in
    let sight = rw c.ahead.ensures at (rw c.in-Short.is at c.look.ensures.sees) in
    handed_later (IsPartText c.args.part) (IsPartText c.args.part) _ _ _ [] _ _ c.from_residual.ensures.1 known.carried (λ rest begins. begins)
    (finishes_same (IsPartText c.args.part)) (stopped_short (IsPartText c.args.part) c.in-Short.least _ _ _ sight.0 sight.4 c.in_err-fetch-in-Short.ensures.fetched)

pub returns-in-Bad-clause-passed : goal.returns-in-Bad-clause-passed
returns-in-Bad-clause-passed g c =
    let known = c.loop-len.invariant in
    stopped_later (IsPartText c.args.part) (IsPartText c.args.part) _ _ _ [] _ known.carried (λ rest begins. begins)
    (finishes_same (IsPartText c.args.part)) (stopped_bad (IsPartText c.args.part) _ (rw c.ahead.ensures at (rw c.in-Bad.is at c.look.ensures.sees)))
