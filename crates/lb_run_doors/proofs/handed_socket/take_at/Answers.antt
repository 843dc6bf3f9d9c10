use Rattle.std.proofs.Common.{◌<◌, length, List, sym, ap, subst, arith}
use Rattle.lb_run_doors.specs.declared.handed_socket.HandedSocket.{HandedSocket}
use Rattle.lb_run_doors.specs.Handed.{IsWithout}
use Rattle.lb_run_doors.proofs.Taken.{among_without}
use Rattle.lb_run_doors.proofs.handed_socket.take_at.Goals as goal

pub returns-then-eq-clause-others : goal.returns-then-eq-clause-others
returns-then-eq-clause-others c =
    let all = c.loop-place.sockets.items in
    let within : c.loop-place.place < length all = omega (arith, c.loop-place-test.true, c.len.ensures, c.loop-place.sockets.ok.0) in
    let found = among_without all c.loop-place.place c.remove.result within c.remove.ensures.value in
    subst (λ (l : List HandedSocket). IsWithout c.remove.result l c.remove.new.self.items) (ap (λ v. v.items) c.loop-place.invariant)
    (subst (λ (l : List HandedSocket). IsWithout c.remove.result all l) (sym c.remove.ensures.items) found)

pub loop-place-smaller : goal.loop-place-smaller
loop-place-smaller c = omega (arith, c.loop-place-test.true, c.len.ensures)
