use Rattle.std.proofs.Common.{◌≡◌, ◌≤◌, take}
use Rattle.std.specs.Char.{is_ascii_hexdigit}
use Rattle.std.specs.Str.Parse.{digits_value}
use Rattle.httparse.specs.Grammar.{AllPass}
use Rattle.http_relay_body.proofs.chunks.part.size_line.least_size.Given as goal

-- the bytes so far are digits, and tell this size
abbrev pub invariant-loop-byte : goal.invariant-loop-byte
invariant-loop-byte l = record {
  digits : AllPass is_ascii_hexdigit (take l.byte-index l.text);
  size : l.size ≡ digits_value 16 (take l.byte-index l.text);
  within : l.size ≤ 262144;
}
