-- What a wire's contract says of its two directions. Our own words; bytes are told as std tells those of its readers
-- and writers: where they are known.
use Rattle.std.specs.Prelude.{◌≡◌, ℕ, ◌==◌, Bool, false, ◌&&◌, nat_lt, List, [], ◌++◌, take, Result, Ok, Err, Option}
use Rattle.std.specs.Io.KnownBytes.{append_known}
use Rattle.http_relay_wire.specs.declared.fault.WireFault.{WireFault}

-- the direction from the peer
pub record Reading : Type 0 where
  -- the bytes that reads will give from here to the peer's end, where they are known
  pub unread : Option (List ℕ)
  -- how many more reads may be made
  pub left : ℕ
  -- a read has told that the peer ended
  pub ended : Bool

-- the bytes that a read or a write moved: as many as it answered, and none where it failed
abbrev pub moved : Result ℕ WireFault → List ℕ → List ℕ
moved (Ok count) bytes = take count bytes
moved (Err fault) bytes = []

-- the answer to a read with this room tells that the peer ended: it had room and no byte came
abbrev pub tells_end : Result ℕ WireFault → ℕ → Bool
tells_end (Ok count) room = (count == 0) && nat_lt 0 room
tells_end (Err fault) room = false

-- known bytes have grown by a beginning of these
abbrev pub AppendsBeginning : Option (List ℕ) → Option (List ℕ) → List ℕ → Type 0
AppendsBeginning old new bytes =
    (front : List ℕ) × (rest : List ℕ) × (bytes ≡ front ++ rest) × (new ≡ append_known old front)
