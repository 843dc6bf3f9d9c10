use Rattle.std.proofs.Common.{refl, sym, arith}
use Rattle.flow_planner.proofs.LeastOptions.{own-home, stays, waits}
use Rattle.flow_planner.proofs.placing.seat.Goals as goal

pub returns-in_default : goal.returns-in_default
returns-in_default c =
    let network = c.args.network.now in
    let group = c.args.group in
    record {
      roomy = c.requires.roomy;
      filling = c.requires.filling;
      placed = omega (arith, c.requires.none, waits network group (sym c.in_default.ensures));
      others = λ g within ne. refl;
    }

pub put-requires : goal.put-requires
put-requires c =
    let network = c.args.network.now in
    let home = own-home network c.args.group c.in-Some.option (sym c.in-Some.ensures) in
    record {
      roomy = c.requires.roomy;
      filling = c.requires.filling;
      group = c.requires.group;
      option = home.there;
      home = λ some. home;
      few = omega (arith, c.requires.none, c.count.ensures);
    }

pub returns : goal.returns
returns c =
    let network = c.args.network.now in
    let made = c.put.ensures in
    record {
      roomy = made.roomy;
      filling = made.filling;
      placed = omega (arith, made.placed, c.requires.none, c.count.ensures, stays network c.args.group c.in-Some.option (sym c.in-Some.ensures));
      others = made.others;
    }
