use Rattle.std.proofs.Common.{◌≡◌, not, ◌&&◌, eqb, ◌∙◌}
use Rattle.server_state.specs.Farm.{capacity_of, usable}
use Rattle.lb_desk_servers.proofs.Commanded.{command_steps}
use Rattle.lb_desk_servers.proofs.changes.command.Goals as goal

pub returns-clause-steps : goal.returns-clause-steps
returns-clause-steps c =
    let old = c.args.farm.now in
    let new = c.apply.new.self in
    let i = c.args.change.server in
    let capacity : eqb c.capacity.result c.capacity-capacity.result ≡ eqb (capacity_of new i) (capacity_of old i) =
    λ k. eqb (c.capacity.ensures.exact k) (c.capacity-capacity.ensures.exact k) in
    let usables : c.eq.result ≡ eqb (usable new) (usable old) =
    c.eq.ensures ∙ (λ k. eqb (c.usable.ensures.exact k) (c.usable-usable.ensures.exact k)) in
    rw (c.reply_of_change-reply.ensures, capacity, usables) (command_steps old new c.apply.result c.args.change c.apply.ensures)
