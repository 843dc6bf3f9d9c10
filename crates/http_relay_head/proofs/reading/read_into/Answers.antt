use Rattle.std.proofs.Common.{◌∙◌}
use Rattle.http_relay_head.proofs.Requests.{whole}
use Rattle.http_relay_head.proofs.reading.read_into.Goals as goal

pub returns-clause-head : goal.returns-clause-head
returns-clause-head g c =
    whole _ _ _ _ _ _ _ (c.fill.auto.room ∙ c.requires.bytes) (c.fill.auto.headers ∙ c.requires.headers) c.in_ok-found.ensures.filled c.assemble.ensures
