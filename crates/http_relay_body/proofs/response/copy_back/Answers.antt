use Rattle.std.proofs.Common.{Ok, subst}
use Rattle.http_relay_body.specs.Copying.{CopiedOn, told}
use Rattle.http_relay_body.proofs.Copies.{copied_twice, copied_whole}
use Rattle.http_relay_body.proofs.response.copy_back.Goals as goal

pub returns-in-Ok-Goes-clause-copied : goal.returns-in-Ok-Goes-clause-copied
returns-in-Ok-Goes-clause-copied g c =
    let first = subst (λ progress. CopiedOn 0 (g.S.Wire.reading c.args.server.now) (g.S.Wire.reading c.copy_through.new.server)
    (g.C.Wire.written c.args.client.now) (g.C.Wire.written c.copy_through.new.client) (told (Ok progress))) c.in-Ok-Goes.field-0-is
    c.in-Ok-Goes.ensures.copied in
    copied_whole _ _ _ _ c.copy_rest.result (copied_twice 0 _ _ _ _ _ _ _ c.copy_rest.result first c.copy_rest.ensures.copied) c.copy_rest.ensures.ended
