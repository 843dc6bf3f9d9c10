use Rattle.std.proofs.Common.{inl, refl, subst}
use Rattle.set_cookie.specs.TaughtKeys.{IsTaught}
use Rattle.http_relay_talk.specs.Lessons.{untaught}
use Rattle.http_relay_talk.proofs.Lessons.{looks_in_vain, makes_nothing, set_teaches}
use Rattle.http_relay_talk.proofs.learning.teach.Goals as goal

pub returns-in_err-key : goal.returns-in_err-key
returns-in_err-key g c =
    looks_in_vain c.args.lesson.now c.args.server c.args.answer.now (g.P.Port.entries c.args.port.now) (g.P.Port.refusals c.args.port.now)
    c.from_residual.result c.from_residual.ensures.0

pub returns-in-Nothing : goal.returns-in-Nothing
returns-in-Nothing g c =
    let found = subst (λ found. IsTaught c.args.lesson.now.pattern c.args.answer.now found) c.in-Nothing.is c.in_ok-key.ensures in
    (untaught, makes_nothing (g.P.Port.entries c.args.port.now) (g.P.Port.refusals c.args.port.now), (found.0, inl (found.1, refl)))

pub returns-in-Key : goal.returns-in-Key
returns-in-Key g c =
    let found = subst (λ found. IsTaught c.args.lesson.now.pattern c.args.answer.now found) c.in-Key.is c.in_ok-key.ensures in
    set_teaches c.args.lesson.now c.args.server c.args.answer.now c.pin.result (g.P.Port.entries c.args.port.now)
    (g.P.Port.entries c.set-pinning.new.self) (g.P.Port.refusals c.args.port.now) (g.P.Port.refusals c.set-pinning.new.self) c.set-pinning.result
    found.0 (c.pin.ensures c.args.answer.now found.1) c.set-pinning.ensures.entries c.set-pinning.ensures.refusals
