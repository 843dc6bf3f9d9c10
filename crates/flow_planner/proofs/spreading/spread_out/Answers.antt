use Rattle.std.proofs.Common.{◌∙◌, arith}
use Rattle.flow_planner.proofs.spreading.spread_out.Goals as goal

pub fill-requires : goal.fill-requires
fill-requires c = record {
  roomy = c.fill-left.ensures.roomy;
  filling = c.fill-left.ensures.filling;
  group = c.requires.group;
  home = c.requires.home;
  few = omega (arith, c.fill-left.ensures.placed, c.requires.few);
}

pub returns : goal.returns
returns c = record {
  roomy = c.fill.ensures.roomy;
  filling = c.fill.ensures.filling;
  placed = omega (arith, c.fill.ensures.placed, c.fill-left.ensures.placed);
  others = λ g within ne. c.fill.ensures.others g within ne ∙ c.fill-left.ensures.others g within ne;
}
