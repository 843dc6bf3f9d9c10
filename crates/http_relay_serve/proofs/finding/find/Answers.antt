use Rattle.std.proofs.Common.{◌≡◌, Some, sym, subst}
use Rattle.lb_acl.specs.HeadView.{HeadView}
use Rattle.http_relay_serve.proofs.Stages.{body_of_head}
use Rattle.http_relay_serve.proofs.finding.find.Goals as goal

pub returns-clause-finds : goal.returns-clause-finds
returns-clause-finds g c =
    let routes = g.T.Routing.routes c.args.routing.now in (
      record { read = c.in-Ok.ensures.head; judged = c.in-Ok.ensures.input; faults = c.in-Ok.ensures.faults; unanswered = c.in-Ok.ensures.written },
      subst (λ (h : HeadView). routes.backend h ≡ Some c.in-Some.backend) c.head.ensures (sym c.in-Some.ensures.backend),
      body_of_head c.args.source _ _ c.in-Ok.read c.in-Ok.ensures.head,
    )
