-- A response that is copied piece by piece is copied.
use Rattle.std.proofs.Common.{◌≡◌, ℕ, ◌+◌, ◌-◌, ◌^◌, min, true, List, [], ◌++◌, length, length-append, Option, Result, Ok, Err, OnOk, sym, ap, ◌∙◌, arith}
use Rattle.std.specs.Io.KnownBytes.{prepend_known, IsAtEnd}
use Rattle.http_relay_wire.specs.Wires.{Reading}
use Rattle.http_relay_wire.proofs.KnownBytes.{prepend_nothing, prepend_twice}
use Rattle.http_relay_body.specs.declared.response.CopyFault.{CopyFault}
use Rattle.http_relay_body.specs.declared.response.CopyFault.TheVariants.{NoResponse, CutShort, Client}
use Rattle.http_relay_body.specs.Copies.{Copied}
use Rattle.http_relay_body.specs.Copying.{CopiedOn}
use Rattle.http_relay_body.proofs.Moves.{append_nothing, appends_both, begins_later}

-- what the first part and the second part read
read_twice : (old mid new : Option (List ℕ)) (s t : List ℕ) → old ≡ prepend_known s mid → mid ≡ prepend_known t new → old ≡ prepend_known (s ++ t) new
read_twice old mid new s t x y = x ∙ ap (prepend_known s) y ∙ prepend_twice new s t

-- a number that stops at a limit, of two parts
counted_twice : (n : ℕ) (s t : List ℕ) (count whole : ℕ) → count ≡ min (n + length s) (2 ^ 64 - 1) → whole ≡ min (count + length t) (2 ^ 64 - 1)
    → whole ≡ min (n + length (s ++ t)) (2 ^ 64 - 1)
counted_twice n s t count whole first both = grind (arith, length-append s t, first, both)

-- a part and what follows it are one part
pub copied_twice : (n : ℕ) (old mid new : Reading) (before midway after : Option (List ℕ)) (count : ℕ) (answer : Result ℕ CopyFault)
    → CopiedOn n old mid before midway (Ok count) → CopiedOn count mid new midway after answer → CopiedOn n old new before after answer
copied_twice n old mid new before midway after count (Ok whole) x y = record {
  text = x.text ++ y.text;
  read = read_twice old.unread mid.unread new.unread x.text y.text x.read y.read;
  tells = counted_twice n x.text y.text count whole x.tells y.tells;
  sent = appends_both before midway after x.text y.text x.sent y.sent;
}
copied_twice n old mid new before midway after count (Err (NoResponse fault)) x y = record {
  text = x.text ++ y.text;
  read = read_twice old.unread mid.unread new.unread x.text y.text x.read y.read;
  tells = grind (arith, length-append x.text y.text, x.tells, y.tells);
  sent = appends_both before midway after x.text y.text x.sent y.sent;
}
copied_twice n old mid new before midway after count (Err (CutShort fault)) x y = record {
  text = x.text ++ y.text;
  read = read_twice old.unread mid.unread new.unread x.text y.text x.read y.read;
  tells = grind (arith, length-append x.text y.text, x.tells, y.tells);
  sent = appends_both before midway after x.text y.text x.sent y.sent;
}
copied_twice n old mid new before midway after count (Err (Client fault)) x y = record {
  text = x.text ++ y.text;
  read = read_twice old.unread mid.unread new.unread x.text y.text x.read y.read;
  tells = grind (arith, length-append x.text y.text, x.tells, y.tells);
  sent = begins_later before midway after x.text y.text x.sent y.sent;
}

-- nothing was copied yet
pub copied_nothing : (n : ℕ) (reading : Reading) (written : Option (List ℕ)) → n ≡ min n (2 ^ 64 - 1) → CopiedOn n reading reading written written (Ok n)
copied_nothing n reading written fits = record {
  text = [];
  read = sym (prepend_nothing reading.unread);
  tells = grind (arith, fits);
  sent = sym (append_nothing written);
}

-- all parts to the end are the response
pub copied_whole : (old new : Reading) (before after : Option (List ℕ)) (answer : Result ℕ CopyFault) → CopiedOn 0 old new before after answer
    → OnOk answer (IsAtEnd new.unread × (new.ended ≡ true)) → Copied old new before after answer
copied_whole old new before after (Ok whole) x (at_end, ended) =
    record { text = x.text; read = x.read; tells = grind (arith, x.tells); at_end = at_end; ended = ended; sent = x.sent }
copied_whole old new before after (Err (NoResponse fault)) x end =
    record { text = x.text; read = x.read; tells = grind (arith, x.tells); at_end = tt; ended = tt; sent = x.sent }
copied_whole old new before after (Err (CutShort fault)) x end =
    record { text = x.text; read = x.read; tells = grind (arith, x.tells); at_end = tt; ended = tt; sent = x.sent }
copied_whole old new before after (Err (Client fault)) x end =
    record { text = x.text; read = x.read; tells = x.tells; at_end = tt; ended = tt; sent = x.sent }
