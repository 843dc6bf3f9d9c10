use Rattle.std.proofs.Common.{◌≡◌, Some, take}
use Rattle.std.specs.Str.Parse.{digits_value}
use Rattle.lb_types_text.specs.Numbers.{within_64_bits}
use Rattle.lb_types_text.proofs.numbers.value.Given as goal

-- the number that the digits so far write
abbrev pub invariant-loop-byte : goal.invariant-loop-byte
invariant-loop-byte l = Some l.number ≡ within_64_bits (digits_value 10 (take l.byte-index l.word))
