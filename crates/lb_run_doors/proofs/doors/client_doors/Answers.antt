use Rattle.std.proofs.Common.{◌≡◌, ◌∙◌, ℕ, ◌+◌, ◌++◌, get_or, sym, ap₂, arith}
use Rattle.lb_run_doors.specs.Doors.{doors_at}
use Rattle.lb_run_doors.proofs.InOrder.{doors_from-take}
use Rattle.lb_run_doors.proofs.Taken.{all_have_doors}
use Rattle.lb_run_doors.proofs.doors.client_doors.Goals as goal

pub loop-place-preserved : goal.loop-place-preserved
loop-place-preserved g c =
    let place = c.loop-place.place in
    let frontend = c.index-frontends-place.result in
    let start : 0 + c.loop-place.place ≡ c.loop-place.place = omega arith in
    let more = doors_from-take 0 place c.args.frontends.now frontend c.loop-place-test.true in
    let these : doors_at place frontend ≡ doors_at (0 + place) (get_or c.args.frontends.now place frontend) =
    ap₂ (λ (m : ℕ) f. doors_at m f) (sym start) c.index-frontends-place.is in (
      omega (arith, c.loop-place-test.true),
      c.in_ok-add_doors.ensures.clients ∙ ap₂ (λ l r. l ++ r) c.loop-place.invariant.1 these ∙ sym more,
      λ socket kept. c.in_ok-add_doors.ensures.handed socket (c.loop-place.invariant.2 socket kept),
    )

pub returns-clause-handed : goal.returns-clause-handed
returns-clause-handed g c =
    all_have_doors c.args.handed.items c.loop-place.waiting.items c.loop-place.doors.items c.loop-place.invariant.2
    (omega (arith, c.in-None.ensures.cases.0, c.loop-place.waiting.ok.0))
