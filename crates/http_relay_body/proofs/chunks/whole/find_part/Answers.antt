use Rattle.http_relay_body.proofs.Fronts.{never_part}
use Rattle.http_relay_body.proofs.chunks.whole.find_part.Goals as goal

pub returns-in-Bad : goal.returns-in-Bad
returns-in-Bad c = never_part c.args.part c.args.text.now c.in-Bad.ensures
