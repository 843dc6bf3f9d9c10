use Rattle.std.proofs.Common.{◌∙◌, sym, arith}
use Rattle.std.proofs.lemmas.List.{length_push}
use Rattle.pin_file_return.proofs.Puttings.{next_left, one_more, others_do_not, pinned_counts, refused_then}
use Rattle.pin_file_return.proofs.putting.return_pins.Goals as goal

pub returns-in_err-set-clause-sets : goal.returns-in_err-set-clause-sets
returns-in_err-set-clause-sets g c =
    refused_then c.from_residual.result c.args.pins.items c.loop-pin.yielded c.loop-pin.pin-iterator.rest.items c.loop-pin.pinned
    (g.P.Port.entries c.args.port.now) (g.P.Port.entries c.loop-pin.port) (g.P.Port.entries c.set.new.self)
    c.from_residual.ensures.0 (sym c.loop-pin.invariant.0) c.loop-pin.invariant.1 c.in_err-set.ensures.entries

pub loop-pin-preserved-in-Pinned : goal.loop-pin-preserved-in-Pinned
loop-pin-preserved-in-Pinned g c = (
  next_left c.loop-pin.yielded c.loop-pin.pin-iterator.rest.items c.args.pins.items c.next.new.self.rest.items c.in-Some.pin
      c.loop-pin.invariant.0 c.in-Some.ensures.steps.0,
  one_more c.loop-pin.yielded c.in-Some.pin c.loop-pin.pinned _ _ (g.P.Port.entries c.loop-pin.port) _ c.in_ok-set.field-0 c.loop-pin.invariant.1
      c.in_ok-set.ensures.entries (pinned_counts c.in_ok-set.field-0 c.in-Pinned.field-0 c.loop-pin.pinned c.in-Pinned.is),
  omega (arith, c.loop-pin.invariant.2, length_push c.loop-pin.yielded c.in-Some.pin),
  c.in_ok-set.ensures.refusals ∙ c.loop-pin.invariant.3,
)

pub loop-pin-preserved : goal.loop-pin-preserved
loop-pin-preserved g c = (
  next_left c.loop-pin.yielded c.loop-pin.pin-iterator.rest.items c.args.pins.items c.next.new.self.rest.items c.in-Some.pin
      c.loop-pin.invariant.0 c.in-Some.ensures.steps.0,
  one_more c.loop-pin.yielded c.in-Some.pin c.loop-pin.pinned _ _ (g.P.Port.entries c.loop-pin.port) _ c.in_ok-set.field-0 c.loop-pin.invariant.1
      c.in_ok-set.ensures.entries (others_do_not c.in_ok-set.field-0 c.loop-pin.pinned c.in_default.not-Pinned),
  omega (arith, c.loop-pin.invariant.2, length_push c.loop-pin.yielded c.in-Some.pin),
  c.in_ok-set.ensures.refusals ∙ c.loop-pin.invariant.3,
)
