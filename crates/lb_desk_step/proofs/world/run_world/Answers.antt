use Rattle.std.proofs.Common.{◌≡◌, List, sym, ◌∙◌, subst, rules, map-id}
use Rattle.std.proofs.lemmas.Iterator.Adapters.{YieldsList-from_vec}
use Rattle.std.proofs.lemmas.Iterator.Consumers.{YieldsList-end}
use Rattle.lb_desk_model.specs.declared.event.Event.{Event}
use Rattle.lb_desk_step.specs.Worlds.{Answers}
use Rattle.lb_desk_step.proofs.Running.{answers_of, stands_at_more}
use Rattle.lb_desk_step.proofs.world.run_world.Goals as goal

pub loop-event-preserved : goal.loop-event-preserved
loop-event-preserved g c =
    let l = c.loop-event in
    stands_at_more c.args.backend.now l.yielded l.replies.items c.push.new.self.items l.desk c.in-Some.event c.in_ok-reply.reply c.step.new.self
    l.invariant.0 l.invariant.1 c.in_ok-push.ensures.items c.in_ok-reply.ensures.takes

pub returns : goal.returns
returns g c =
    let l = c.loop-event in
    let end = YieldsList-end (YieldsList-from_vec {s = c.into_iter-event-iterator.result} c.args.events.items (search rules) (search rules))
    l.yielded l.event-iterator l.yielded_by c.next.result c.next.new.self c.in-None.is c.next.ensures.steps in
    let all : l.yielded ≡ c.args.events.items = sym (map-id l.yielded) ∙ end.0 in
    subst (λ (es : List Event). Answers c.args.backend.now es l.replies.items) all
    (answers_of c.args.backend.now l.yielded l.replies.items l.desk l.invariant.0 l.invariant.1)
