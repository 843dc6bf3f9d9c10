use Rattle.std.proofs.Common.{refl, arith}
use Rattle.lb_acl.specs.Cookies.{cookies_of}
use Rattle.lb_acl.proofs.LastOnes.{last_cookie_more}
use Rattle.lb_acl.proofs.latest.last_cookie.Goals as goal

pub loop-field-init : goal.loop-field-init
unfolding cookies_of
loop-field-init c = refl

pub loop-field-preserved : goal.loop-field-preserved
loop-field-preserved c =
    last_cookie_more c.args.name.now c.args.fields.now c.loop-field.field-index c.field-item.result _ _ (omega arith) c.field-item.is c.loop-field.invariant c.later_cookie-found.ensures
