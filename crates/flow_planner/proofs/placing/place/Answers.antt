use Rattle.std.proofs.Common.{◌<◌, refl, ◌∙◌, arith}
use Rattle.flow_planner.specs.Fillings.{waiting}
use Rattle.flow_planner.proofs.LeastOptions.{waits-from}
use Rattle.flow_planner.proofs.placing.place.Goals as goal

pub returns-then-pins-eq0 : goal.returns-then-pins-eq0
returns-then-pins-eq0 c = record {
  roomy = c.requires.roomy;
  filling = c.requires.filling;
  placed = omega (arith, c.requires.placed, c.waiting-pins.ensures, c.if-pins-eq0.true);
  others = λ g within ne. refl;
}

pub home-home-requires : goal.home-home-requires
home-home-requires c =
    let some : 0 < waiting c.args.network.now c.args.group = omega (arith, c.waiting-pins.ensures, c.if-pins-eq0.false) in
    record {
      group = c.requires.group;
      groups = c.requires.groups;
      waits = waits-from c.args.network.now c.args.group some;
    }

pub spread_out-left-requires : goal.spread_out-left-requires
spread_out-left-requires c = record {
  roomy = c.requires.roomy;
  filling = c.requires.filling;
  group = c.requires.group;
  home = c.home-home.ensures;
  few = omega (arith, c.requires.placed, c.waiting-pins.ensures);
}

pub put-requires : goal.put-requires
put-requires c =
    let made = c.spread_out-left.ensures in
    record {
      roomy = made.roomy;
      filling = made.filling;
      group = c.requires.group;
      option = c.home-home.ensures.there;
      home = λ some. c.home-home.ensures;
      few = omega (arith, made.placed, c.requires.placed, c.waiting-pins.ensures);
    }

pub returns : goal.returns
returns c =
    let made = c.spread_out-left.ensures in
    record {
      roomy = c.put.ensures.roomy;
      filling = c.put.ensures.filling;
      placed = omega (arith, c.put.ensures.placed, made.placed, c.requires.placed, c.waiting-pins.ensures);
      others = λ g within ne. c.put.ensures.others g within ne ∙ made.others g within ne;
    }
