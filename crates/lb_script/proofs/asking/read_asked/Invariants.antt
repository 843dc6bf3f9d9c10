use Rattle.std.proofs.Common.{◌≡◌, length}
use Rattle.lb_script.specs.Requests.{asked_in}
use Rattle.lb_script.proofs.AskedWords.{asked_behind}
use Rattle.lb_script.proofs.asking.read_asked.Given as goal

-- the servers so far and what the words that are left ask for are what all of them ask for
abbrev pub invariant-loop-word : goal.invariant-loop-word
invariant-loop-word l = asked_behind l.rules.items l.servers l.words ≡ asked_in l.fn.servers l.fn.words

abbrev pub decreases-loop-word : goal.decreases-loop-word
decreases-loop-word l = length l.words
