use Rattle.std.proofs.Common.{subst}
use Rattle.http_relay_talk.specs.Visits.{IsLearning}
use Rattle.http_relay_talk.proofs.Lessons.{front_learns, over_learns}
use Rattle.http_relay_talk.proofs.learning.Learning.learn.Goals as goal

pub returns-in-Over : goal.returns-in-Over
returns-in-Over g c lesson server answer taught h = over_learns lesson server answer c.args.piece.now taught (g.P.Port.entries c.args.port.now)
    (g.P.Port.refusals c.args.port.now) (subst (λ l. IsLearning lesson server answer l taught) c.in-Over.is h)

pub returns-in-Goes : goal.returns-in-Goes
returns-in-Goes g c lesson server answer taught h = front_learns c.in-Goes.front lesson server answer c.args.piece.now taught
    (g.P.Port.entries c.args.port.now) (g.P.Port.entries c.learn.new.port) (g.P.Port.refusals c.args.port.now) (g.P.Port.refusals c.learn.new.port)
    c.learn.result (subst (λ l. IsLearning lesson server answer l taught) c.in-Goes.is h) c.learn.ensures
