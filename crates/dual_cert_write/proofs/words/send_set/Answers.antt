use Rattle.std.proofs.Common.{refl, arith, map}
use Rattle.dual_cert_text.specs.Spellings.{set_word}
use Rattle.dual_cert_write.proofs.Sends.{Sends-then}
use Rattle.dual_cert_write.proofs.Sets.{first_member, names-more, some_more, set_word-names}
use Rattle.dual_cert_write.proofs.words.send_set.Goals as goal

pub returns-in_default : goal.returns-in_default
unfolding set_word
returns-in_default g c =
    let none = c.in_default.ensures.none.0 refl in
    rw none c.send.ensures

pub loop-index-init : goal.loop-index-init
loop-index-init g c =
    let first = first_member c.in-Some.first c.args.set c.in-Some.ensures.member c.in-Some.ensures.least in
    let name = rw c.name_of.ensures at c.send-sent.ensures in
    rw (c.index-index.ensures.exact, first) (record { some = omega arith; names = name })

pub loop-index-preserved : goal.loop-index-preserved
loop-index-preserved g c =
    let member = rw c.new.ensures at c.send_member-sent.ensures in
    let more = names-more (map g.S.Listed.priced c.args.servers.now) c.loop-index.index c.args.set c.loop-index.invariant.some in
    record {
      some = some_more c.loop-index.index c.args.set c.loop-index.invariant.some;
      names = rw more (Sends-then _ _ _ _ _ _ _ _ c.loop-index.invariant.names member);
    }

pub returns : goal.returns
returns g c =
    let servers = map g.S.Listed.priced c.args.servers.now in
    let within = c.requires.listed c.in-Some.first c.in-Some.ensures.member in
    let whole = set_word-names servers c.loop-index.index c.args.set c.in-Some.first c.in-Some.ensures.member (omega arith) (λ s there. (let w = c.requires.listed s there in omega arith)) in
    rw (← whole) c.loop-index.invariant.names
