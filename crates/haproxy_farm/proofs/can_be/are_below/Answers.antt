use Rattle.std.proofs.Common.{sym, ◌∙◌}
use Rattle.std.proofs.lemmas.Bool.{eq-eqb, eqb-true}
use Rattle.haproxy_farm.proofs.Sets.{below_meet, meet_below}
use Rattle.haproxy_farm.proofs.can_be.are_below.Goals as goal

pub returns : goal.returns
returns c = (
  λ same. meet_below _ _ _ _ c.meet.ensures.members c.first_servers.ensures (eqb-true _ _ (sym c.eq.ensures ∙ same)),
  λ below. c.eq.ensures ∙ eq-eqb _ _ (below_meet _ _ _ _ c.meet.ensures.members c.first_servers.ensures below),
)
