use Rattle.std.proofs.Common.{take}
use Rattle.command_socket_serve.specs.Desks.{desk_seen}
use Rattle.command_socket_serve.specs.Outcomes.{Says}
use Rattle.command_socket_serve.specs.Tasks.{ChangesEach, names_of}
use Rattle.command_socket_serve.proofs.pins.change_each.Given as goal

-- the pins so far are changed
abbrev pub invariant-loop-kept : goal.invariant-loop-kept
invariant-loop-kept g l =
    let seen = desk_seen g.S.Mover.entries g.S.Mover.planned_now g.S.Mover.backend g.S.Steer.sights in
    Says (ChangesEach l.named l.change l.moment (names_of (take l.kept-index l.pins)) (seen l.fn.desk) (seen l.desk)) l.fn.out l.fn.sent l.out l.printed
