use Rattle.std.proofs.Common.{◌≡◌, refl}
use Rattle.std.specs.Prelude.{nat_lt}
use Rattle.lb_desk_model.specs.declared.event.Event.TheVariants.{Expire}
use Rattle.lb_desk_model.specs.declared.reply.Reply.TheVariants.{Expired}
use Rattle.lb_desk_model.specs.Seen.{Seen}
use Rattle.lb_desk_core.specs.Acting.{ActsOn}
use Rattle.lb_desk_core.specs.Parts.{shown_of}
use Rattle.lb_desk_core.proofs.ExpirySteps.{rising_pins, placed_pins, bounded_pins, expiry_steps}
use Rattle.lb_desk_core.proofs.Reached.{reached_further}
use Rattle.lb_desk_core.proofs.Snapshots.{reached_few}
use Rattle.lb_desk_core.proofs.backend_core.Core.expire.Goals as goal

pub expire-gone-requires-clause-rising : goal.expire-gone-requires-clause-rising
expire-gone-requires-clause-rising g c = rising_pins c.self.inside.parts.shown c.self.invariant

pub expire-gone-requires-clause-placed : goal.expire-gone-requires-clause-placed
expire-gone-requires-clause-placed g c = placed_pins c.self.inside.parts.shown c.self.invariant

pub expire-gone-requires-clause-latest : goal.expire-gone-requires-clause-latest
expire-gone-requires-clause-latest g c = bounded_pins c.self.inside.parts.shown c.self.invariant

pub expire-gone-requires-clause-few : goal.expire-gone-requires-clause-few
expire-gone-requires-clause-few g c = reached_few c.self.inside.parts.shown c.self.invariant

pub returns-clause-steps : goal.returns-clause-steps
returns-clause-steps g c =
    let p = c.self-inside.inside in
    let gone = c.expire-gone.result in
    let left : Seen = shown_of p.0.0.balance p.0.0.settings p.0.0.names.items p.0.0.farm p.0.0.book p.0.0.table p.0.0.cursor p.0.0.latest in
    let same : left ≡ c.expire-gone.new.self.shown = λ i. (c.self-inside.view_is i).parts.shown in
    let acts : ActsOn c.self.inside.parts.shown (Expire c.args.now) (Expired gone) left = rw same c.expire-gone.ensures.acts in
    rw (← c.self.view_is, c.count.ensures) (expiry_steps c.self.inside.parts.shown left c.args.now gone (nat_lt 0 gone) c.self.invariant
    acts refl)

pub invariant_of-self : goal.invariant_of-self
invariant_of-self g c =
    let p = c.self-inside.inside in
    let new : Seen = shown_of p.0.0.balance p.0.0.settings p.0.0.names.items p.0.0.farm p.0.0.book c.count.new.table p.0.0.cursor p.0.0.latest in
    reached_further c.args.self.now.shown (Expire c.args.now) (Expired c.expire-gone.result) new (rw (← c.self.view_is) c.self.invariant) (returns-clause-steps g c)
