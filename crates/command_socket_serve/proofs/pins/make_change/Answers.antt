use Rattle.std.proofs.Common.{◌≡◌, ℕ, ◌≤◌, refl, subst}
use Rattle.std.proofs.Math.Bridge.{le_prop}
use Rattle.std.proofs.lemmas.Bool.{leb-true}
use Rattle.lb_types.specs.declared.limits.TheConstants.{MAX_COST}
use Rattle.pin_set.specs.declared.pin.PinId.{PinId}
use Rattle.lb_desk_model.specs.declared.event.Event.{Event}
use Rattle.lb_desk_model.specs.declared.event.Event.TheVariants.{Set}
use Rattle.lb_desk_steer.specs.Steering.{AddsAt}
use Rattle.command_socket_serve.specs.Tasks.{pin_at}
use Rattle.command_socket_serve.proofs.pins.make_change.Goals as goal

-- the pin that is set. A cost is in its range in one way
same_pin : (name : PinId) (server moment : ℕ) (from : 1 ≤ 1) (to : 1 ≤ MAX_COST)
    → Set (record { name = name; server = server; cost = 1; moment = moment; cost_from = from; cost_to = to }) ≡ Set (pin_at name server moment)
same_pin name server moment from to = λ i. Set (record {
  name = name;
  server = server;
  cost = 1;
  moment = moment;
  cost_from = le_prop from (leb-true 1 1 refl) i;
  cost_to = le_prop to (leb-true 1 MAX_COST refl) i;
})

pub returns-in-Set-clause-entries : goal.returns-in-Set-clause-entries
returns-in-Set-clause-entries g c =
    let adds = subst (λ (e : Event). AddsAt c.args.moment e (g.S.Mover.entries c.args.desk.now) (g.S.Mover.entries c.set_pin.new.self) c.set_pin.result)
    (same_pin c.in-Ok.name c.in-Set.server c.args.moment _ _) c.set_pin.ensures.entries in
    rw (c.in-Set.is, ← c.in-Ok.ensures) adds
