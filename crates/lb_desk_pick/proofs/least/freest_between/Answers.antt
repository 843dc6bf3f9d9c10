use Rattle.std.proofs.Common.{◌≡◌, ℕ, ◌-◌, ◌≤◌, Option, cond, refl, sym, ap, ◌∙◌, arith}
use Rattle.std.specs.Prelude.{filter, fold}
use Rattle.std.specs.List.{range_with_len}
use Rattle.lb_types.specs.Servers.{has}
use Rattle.lb_desk_pick.specs.Walks.{freer, is_as_free}
use Rattle.lb_desk_pick.proofs.Ranges.{fold_next}
use Rattle.lb_desk_pick.proofs.least.freest_between.Goals as goal

pub loop-i-init : goal.loop-i-init
loop-i-init c =
    let none : c.args.from - c.args.from ≡ 0 = omega arith in
    rw none refl

pub loop-i-preserved : goal.loop-i-preserved
loop-i-preserved c =
    let step = freer (is_as_free c.args.farm.now c.args.book.now) in
    let good = has c.args.candidates in
    c.freer_of-freest.ensures
    ∙ (ap (λ (s : ℕ). cond (good s) (step c.loop-i.freest s) c.loop-i.freest) c.new.ensures
    ∙ (ap (λ (o : Option ℕ). cond (good c.loop-i.i) (step o c.loop-i.i) o) c.loop-i.invariant
    ∙ sym (fold_next step c.args.found good c.args.from c.loop-i.i c.loop-i.auto.i)))

pub returns : goal.returns
returns c =
    let last : c.loop-i.i ≤ c.args.end = c.loop-i.auto.i-end c.requires.within in
    let at : c.loop-i.i ≡ c.args.end = omega arith in
    c.loop-i.invariant
    ∙ ap (λ (k : ℕ). fold (freer (is_as_free c.args.farm.now c.args.book.now)) c.args.found (filter (has c.args.candidates) (range_with_len c.args.from (k - c.args.from)))) at
