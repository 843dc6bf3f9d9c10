use Rattle.http_relay_body.proofs.Moves.{none_came, none_left}
use Rattle.http_relay_body.proofs.length.pass_some.Goals as goal

pub returns-in-Err-clause-moved : goal.returns-in-Err-clause-moved
returns-in-Err-clause-moved g c = none_came _ _ _ _ _ _ _ c.requires c.in-Err.ensures.taken c.in-Err.ensures.err

pub returns-in-Ok-eq0-clause-moved : goal.returns-in-Ok-eq0-clause-moved
returns-in-Ok-eq0-clause-moved g c =
    none_left _ c.in-Ok-eq0.field-0 c.take.new.room _ _ _ _ _ c.requires c.in-Ok-eq0.field-0-test c.in-Ok-eq0.ensures.taken
    (c.in-Ok-eq0.ensures.ended c.in-Ok-eq0.field-0-test)
