use Rattle.std.proofs.Common.{refl, ◌∙◌}
use Rattle.haproxy_farm.proofs.Farms.{farm_is_view}
use Rattle.haproxy_farm.proofs.farm.farm_view.Goals as goal

pub new-requires : goal.new-requires
new-requires c =
    let farm = c.can_be_farm.ensures in
    let yes = c.if-not-can_be_farm.false in
    rw (c.in_ok-listed.ensures.items, c.in_ok-pins.ensures)
    (farm_is_view c.args.usable c.args.servers.now c.args.places.now (farm.can.0 yes) (farm.named yes) (farm.room yes))

pub returns-clause-exact : goal.returns-clause-exact
returns-clause-exact c = c.new.ensures ∙ rw (c.in_ok-listed.ensures.items, c.in_ok-pins.ensures) refl
