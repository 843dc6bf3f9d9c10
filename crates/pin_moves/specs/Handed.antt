-- What is left of moves while pins are asked for one by one. No public clause cites this module.
use Rattle.std.specs.Prelude.{◌≡◌, ◌≤◌, true, List, AllPairs}
use Rattle.pin_moves.specs.declared.a_move.Move.{Move}
use Rattle.pin_moves.specs.Moves.{moved_pins, move_before}

-- the moves stand in strictly rising order, and of those for the same pins the first ones are used up first
pub record AreHandedInOrder (left : List Move) : Type 0 where
  pub rising : AllPairs (λ a b. move_before a b ≡ true) left
  pub used : AllPairs (λ a b. moved_pins a ≡ moved_pins b → 1 ≤ a.count → 1 ≤ b.count) left
