use Rattle.std.proofs.Common.{◌≡◌, map, take}
use Rattle.std.specs.String.{string_bytes}
use Rattle.lb_cli_words.specs.Words.{texts}
use Rattle.lb_cli_start.proofs.words.listed.Given as goal

-- the texts of the words so far
abbrev pub invariant-loop-word : goal.invariant-loop-word
invariant-loop-word l = texts l.texts.items ≡ map string_bytes (take l.word-index l.words)
