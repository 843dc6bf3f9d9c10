use Rattle.std.proofs.Common.{◌≡◌, ℕ, map, take, Some}
use Rattle.lb_cli_haproxy.specs.Moves.{numbers_named}
use Rattle.lb_cli_haproxy.proofs.moves.numbers_of.Given as goal

abbrev pub invariant-loop-server : goal.invariant-loop-server
invariant-loop-server l = map (λ (number : ℕ). Some number) l.numbers.items ≡ numbers_named l.servers (take l.server-index l.farm)
