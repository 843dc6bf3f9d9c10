use Rattle.std.proofs.Common.{◌≡◌, take}
use Rattle.std.specs.List.{fold}
use Rattle.http_relay_lobby.specs.HeadEnds.{search_behind}
use Rattle.http_relay_lobby.proofs.search.Search.behind.Given as goal

-- the search behind the bytes so far
abbrev pub invariant-loop-byte : goal.invariant-loop-byte
invariant-loop-byte l = l.search ≡ fold search_behind l.fn.self (take l.byte-index l.bytes)
