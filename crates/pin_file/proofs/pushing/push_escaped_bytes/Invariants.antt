use Rattle.std.proofs.Common.{◌≡◌, ◌++◌, take}
use Rattle.std.specs.List.{flat_map}
use Rattle.pin_file.specs.KeyWords.{escaped}
use Rattle.pin_file.proofs.pushing.push_escaped_bytes.Given as goal

abbrev pub invariant-loop-byte : goal.invariant-loop-byte
invariant-loop-byte l = l.text.items ≡ l.fn.text.items ++ flat_map (λ byte. escaped byte) (take l.byte-index l.bytes)
