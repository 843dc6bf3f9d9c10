use Rattle.std.proofs.Common.{◌≡◌, arith}
use Rattle.lb_types.specs.Servers.{members_below, members}
use Rattle.dual_cert_write.proofs.Sends.{Sends-nil, Sends-then}
use Rattle.lb_answers.specs.Events.{rules_text, wanted_server}
use Rattle.lb_answers.proofs.Wanted.{wanted-more}
use Rattle.lb_answers.proofs.events.send_wanted.Goals as goal

pub loop-index-init : goal.loop-index-init
unfolding members_below
loop-index-init g c = Sends-nil c.args.out.now c.args.sent

pub loop-index-preserved : goal.loop-index-preserved
loop-index-preserved g c =
    let piece = rw c.new.ensures at c.send_wanted_server-sent.ensures in
    rw (wanted-more c.args.servers.now c.loop-index.index c.args.want)
    (Sends-then _ _ _ _ _ _ (rules_text c.args.servers.now (members_below c.loop-index.index c.args.want))
    (wanted_server c.args.servers.now c.args.want c.loop-index.index) c.loop-index.invariant piece)

pub returns : goal.returns
unfolding members
returns g c =
    let all : c.loop-index.index ≡ 128 = omega arith in
    rw all at c.loop-index.invariant
