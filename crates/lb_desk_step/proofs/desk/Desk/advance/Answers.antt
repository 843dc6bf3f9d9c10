use Rattle.std.proofs.Common.{◌≡◌, ◌+◌, ◌-◌, false, sym, ap, ◌∙◌, subst}
use Rattle.lb_desk_model.specs.declared.event.Event.{Event}
use Rattle.lb_desk_model.specs.Worn.{open_connections}
use Rattle.lb_desk_law.specs.Worlds.{entry}
use Rattle.lb_desk_step.specs.Acts.{closed_by, opened_by}
use Rattle.lb_desk_step.specs.Desk.{DeskView, is_worn_for}
use Rattle.lb_desk_step.specs.Parts.{desk_of}
use Rattle.lb_desk_step.proofs.Stepping.{EndsLog, connected, parts_further, takes_of}
use Rattle.lb_desk_step.proofs.desk.Desk.advance.Goals as goal

pub invariant_of-self-2 : goal.invariant_of-self-2
invariant_of-self-2 g c =
    let p = c.self.inside in
    let event = c.args.event in
    let reply = c.in_ok-reply.reply in
    let after = c.push-forgotten.new.self in
    let fresh : is_worn_for (desk_of p.core p.journal) event ≡ false =
    ap (λ (d : DeskView). is_worn_for d event) c.self.view_is ∙ (sym c.is_worn.ensures ∙ c.if-is_worn.false) in
    let ends : EndsLog p.journal (entry event reply) after =
    subst (λ (e : Event). EndsLog p.journal (entry e reply) after) c.answer.ensures.same c.push-forgotten.ensures.log in
    let opens : c.opened_by.result ≡ opened_by event reply = c.opened_by.ensures.exact ∙ ap (λ (e : Event). opened_by e reply) c.answer.ensures.same in
    let closes : c.closed_by.result ≡ closed_by event reply = c.closed_by.ensures ∙ ap (λ (e : Event). closed_by e reply) c.answer.ensures.same in
    let counted : p.connections + c.opened_by.result - c.closed_by.result ≡ open_connections c.answer.new.core.shown =
    connected (open_connections p.core.shown) (open_connections c.answer.new.core.shown) p.connections c.opened_by.result c.closed_by.result
    (rw (opens, closes) c.in_ok-reply.ensures.connections) c.self.invariant.counted in
    parts_further p.core c.answer.new.core p.journal after p.connections (p.connections + c.opened_by.result - c.closed_by.result) event reply
    c.self.invariant (record {
      steps = c.in_ok-reply.ensures.steps;
      connects = c.in_ok-reply.ensures.connections;
      uses = c.answer.ensures.uses;
    }) fresh ends counted

pub returns-clause-takes : goal.returns-clause-takes
returns-clause-takes g c =
    let p = c.self.inside in
    let event = c.args.event in
    let reply = c.in_ok-reply.reply in
    let after = c.push-forgotten.new.self in
    let ends : EndsLog p.journal (entry event reply) after =
    subst (λ (e : Event). EndsLog p.journal (entry e reply) after) c.answer.ensures.same c.push-forgotten.ensures.log in
    rw (← c.self.view_is, c.in_ok-reply.ensures.copy)
    (takes_of p.core c.answer.new.core p.journal after event reply c.in_ok-reply.ensures.steps (rw (← c.answer.ensures.same) c.push-forgotten.ensures.pushed) ends)
