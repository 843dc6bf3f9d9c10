use Rattle.std.proofs.Common.{◌≡◌, false, eqb, arith}
use Rattle.std.proofs.lemmas.Bool.Decides.{nat_tests}
use Rattle.command_socket_keys.proofs.Escapes.{own_byte, all_bytes}
use Rattle.command_socket_keys.proofs.reading.read_bytes.Goals as goal

pub loop-first-preserved-then-first-ne37 : goal.loop-first-preserved-then-first-ne37
loop-first-preserved-then-first-ne37 c =
    let other : eqb c.in-Some.first.now 37 ≡ false = grind (arith, nat_tests, c.if-first-ne37.true) in
    rw c.in_ok-push.ensures.items
    (own_byte c.loop-first.bytes.items c.args.word.now c.in-Some.first.now c.in-Some.behind.now other
    (rw c.in-Some.ensures.cases.0 at c.loop-first.invariant))

pub returns : goal.returns
returns c = rw c.new.ensures (all_bytes c.loop-first.bytes.items c.args.word.now c.loop-first.rest.now c.in_default.ensures.cases c.loop-first.invariant)
