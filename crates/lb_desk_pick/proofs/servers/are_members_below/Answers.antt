use Rattle.std.proofs.Common.{◌≡◌, length, min, sym, ap, ◌∙◌, arith}
use Rattle.std.proofs.lemmas.Bool.{eq-eqb, eqb-true}
use Rattle.lb_types.specs.Servers.{has, members, members_below}
use Rattle.lb_desk_pick.proofs.Members.{all_counted, counted_all, counted_in, counted_out, none_counted}
use Rattle.lb_desk_pick.proofs.servers.are_members_below.Goals as goal
use Rattle.lb_desk_pick.proofs.servers.are_members_below.Goals.{then-has, else-has}

pub loop-i-init : goal.loop-i-init
loop-i-init c = (none_counted c.args.set, omega arith)

pub overflow_add-below : goal.overflow_add-below
overflow_add-below c = search (arith, c.loop-i.invariant.1, c.loop-i-test.true, c.min-i-end.ensures)

pub loop-i-preserved : goal.loop-i-preserved
loop-i-preserved c = elim c.if-has.branch [
  | then-has w ↦
      let there = ap (has c.args.set) (sym c.new.ensures) ∙ (sym c.has.ensures ∙ w.if-has.true) in
      (omega (arith, w.below-is, c.loop-i.invariant.0, counted_in c.loop-i.i c.args.set there), omega (arith, w.below-is, c.loop-i.invariant.1))
  | else-has w ↦
      let none = ap (has c.args.set) (sym c.new.ensures) ∙ (sym c.has.ensures ∙ w.if-has.false) in
      (omega (arith, w.below-is, c.loop-i.invariant.0, counted_out c.loop-i.i c.args.set none), omega (arith, w.below-is, c.loop-i.invariant.1))
]

pub returns : goal.returns
unfolding members
returns c =
    let end : c.loop-i.i ≡ min c.args.count 128 = omega (arith, c.loop-i-test.false, c.min-i-end.ensures, c.loop-i.auto.i-end) in
    let seen = c.loop-i.invariant.0 ∙ ap (λ n. length (members_below n c.args.set)) end in (
      λ yes. all_counted c.args.count c.args.set (sym seen ∙ (eqb-true c.loop-i.below c.len.result yes ∙ c.len.ensures)),
      λ all. eq-eqb c.loop-i.below c.len.result (seen ∙ (counted_all c.args.count c.args.set all ∙ sym c.len.ensures)),
    )
