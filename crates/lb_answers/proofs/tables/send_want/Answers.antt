use Rattle.std.proofs.Common.{◌≡◌, refl, arith}
use Rattle.dual_cert_write.proofs.Sends.{Sends-then}
use Rattle.dual_cert_write.proofs.Sets.{first_member, some_more}
use Rattle.lb_answers.specs.Names.{server_word}
use Rattle.lb_answers.specs.Tables.{want_word, member_text}
use Rattle.lb_answers.proofs.Wants.{words_below, words-more, want_word-words}
use Rattle.lb_answers.proofs.tables.send_want.Goals as goal

pub returns-in_default : goal.returns-in_default
unfolding want_word
returns-in_default g c =
    let none = c.in_default.ensures.none.0 refl in
    rw none c.send.ensures

pub loop-index-init : goal.loop-index-init
loop-index-init g c =
    let first = first_member c.in-Some.first c.args.want c.in-Some.ensures.member c.in-Some.ensures.least in
    rw (c.index-index.ensures.exact, first) (record { some = omega arith; words = c.send_server-sent.ensures })

pub loop-index-preserved : goal.loop-index-preserved
loop-index-preserved g c =
    let member = rw c.new.ensures at c.send_member-sent.ensures in
    let more = words-more (λ server. server_word c.args.servers.now server) c.loop-index.index c.args.want c.loop-index.invariant.some in
    record {
      some = some_more c.loop-index.index c.args.want c.loop-index.invariant.some;
      words = rw more (Sends-then _ _ _ _ _ _ (words_below (λ server. server_word c.args.servers.now server) c.loop-index.index c.args.want) (member_text c.args.servers.now c.args.want c.loop-index.index) c.loop-index.invariant.words member);
    }

pub returns : goal.returns
returns g c =
    let all : c.loop-index.index ≡ 128 = omega arith in
    rw (want_word-words c.args.servers.now c.args.want c.in-Some.first c.in-Some.ensures.member) (rw all at c.loop-index.invariant.words)
