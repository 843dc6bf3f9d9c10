use Rattle.std.proofs.Common.{◌≡◌, ◌++◌, drop}
use Rattle.lb_cli_haproxy.specs.Moves.{moves_of, said_by}
use Rattle.lb_cli_haproxy.proofs.moves.moves_of.Given as goal

-- the moves so far and those of the clients that are left are all of them
abbrev pub invariant-loop-i : goal.invariant-loop-i
invariant-loop-i l = said_by l.moves.items ++ moves_of l.numbers (drop l.i l.clients) (drop l.i l.places) ≡ moves_of l.numbers l.clients l.places
