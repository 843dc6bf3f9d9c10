use Rattle.std.proofs.Common.{◌≡◌, ℕ, sym, ap, ◌∙◌, subst}
use Rattle.pin_set.specs.Pins.{permitted}
use Rattle.server_state.specs.Farm.{usable}
use Rattle.lb_desk_pick.specs.Walks.{HaveWeights}
use Rattle.lb_desk_pick.proofs.Permitted.{permitted_weigh}
use Rattle.lb_desk_pick.proofs.picking.loose_pick.Goals as goal

pub pick-requires : goal.pick-requires
pick-requires c =
    let farm = c.args.farm.now in
    let same : c.permitted-permitted.result ≡ permitted c.set_of.result (usable farm) = c.permitted-permitted.ensures ∙ ap (permitted c.set_of.result) c.usable.ensures.exact in
    subst (λ (set : ℕ). HaveWeights farm set) (sym same) (permitted_weigh farm c.set_of.result)
