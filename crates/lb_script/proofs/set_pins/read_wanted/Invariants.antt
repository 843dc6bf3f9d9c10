use Rattle.std.proofs.Common.{◌≡◌, length}
use Rattle.lb_script.specs.SetPins.{wanted_in}
use Rattle.lb_script.proofs.WantedWords.{wanted_behind}
use Rattle.lb_script.proofs.set_pins.read_wanted.Given as goal

-- the servers so far and those that the words that are left name are those of all of them
abbrev pub invariant-loop-word : goal.invariant-loop-word
invariant-loop-word l = wanted_behind l.set l.servers l.words ≡ wanted_in l.fn.servers l.fn.words

abbrev pub decreases-loop-word : goal.decreases-loop-word
decreases-loop-word l = length l.words
