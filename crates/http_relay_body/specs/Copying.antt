-- Copying a part of a response, after so many bytes of it. Our own words.
use Rattle.std.specs.Prelude.{◌≡◌, ℕ, ◌+◌, ◌-◌, ◌^◌, ◌<◌, min, ⊤, Bool, true, false, List, [], length, take, Option, Result, Ok, Err}
use Rattle.std.specs.Io.KnownBytes.{prepend_known}
use Rattle.http_relay_wire.specs.Wires.{Reading}
use Rattle.http_relay_body.specs.Copies.{WentOut}
use Rattle.http_relay_body.specs.declared.response.CopyFault.{CopyFault}
use Rattle.http_relay_body.specs.declared.response.CopyFault.TheVariants.{NoResponse, CutShort, Client}
use Rattle.http_relay_body.specs.declared.response.Progress.{Progress}
use Rattle.http_relay_body.specs.declared.response.Progress.TheVariants.{Ended, Goes}

-- the answer fits what was read behind so many bytes
abbrev pub TellsOn : ℕ → List ℕ → Result ℕ CopyFault → Type 0
TellsOn before text (Ok count) = count ≡ min (before + length text) (2 ^ 64 - 1)
TellsOn before text (Err (NoResponse fault)) = before + length text ≡ 0
TellsOn before text (Err (CutShort fault)) = 0 < before + length text
TellsOn before text (Err (Client fault)) = 0 < length text

-- what was read behind so many bytes went out
pub record CopiedOn (bytes : ℕ) (old new : Reading) (before after : Option (List ℕ)) (answer : Result ℕ CopyFault) : Type 0 where
  pub text : List ℕ
  pub read : old.unread ≡ prepend_known text new.unread
  pub tells : TellsOn bytes text answer
  pub sent : WentOut before after text answer

-- whether the server has ended
abbrev pub has_ended : Progress → Bool
has_ended (Ended count) = true
has_ended (Goes count) = false

-- how many bytes were copied
abbrev pub told : Result Progress CopyFault → Result ℕ CopyFault
told (Ok (Ended count)) = Ok count
told (Ok (Goes count)) = Ok count
told (Err fault) = Err fault

-- ---- a piece: what one read of the server gives

-- the piece in the room, none where the read failed
abbrev pub piece : Result ℕ CopyFault → List ℕ → List ℕ
piece (Ok count) room = take count room
piece (Err fault) room = []

-- the cause of a fault is a read of the server, behind so many bytes
abbrev pub IsOfServer : ℕ → CopyFault → Type 0
IsOfServer before (NoResponse fault) = before ≡ 0
IsOfServer before (CutShort fault) = 0 < before
IsOfServer before (Client fault) = ⊥

-- the cause of a fault is the client's wire
abbrev pub IsOfClient : CopyFault → Type 0
IsOfClient (NoResponse fault) = ⊥
IsOfClient (CutShort fault) = ⊥
IsOfClient (Client fault) = ⊤
