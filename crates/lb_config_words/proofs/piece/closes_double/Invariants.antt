use Rattle.std.proofs.Common.{◌≡◌, length}
use Rattle.lb_config_words.specs.Pieces.{closes_double}
use Rattle.lb_config_words.proofs.piece.closes_double.Given as goal

abbrev pub invariant-loop-byte : goal.invariant-loop-byte
invariant-loop-byte l = closes_double l.rest ≡ closes_double l.fn.bytes

abbrev pub decreases-loop-byte : goal.decreases-loop-byte
decreases-loop-byte l = length l.rest
