-- Bytes that are given before others.
use Rattle.std.proofs.Common.{◌≡◌, ℕ, ◌-◌, ◌≤◌, List, ◌++◌, length, length-drop, take, drop, Option, ap, sym, ◌∙◌}
use Rattle.std.proofs.lemmas.List.{take-append-drop, length-take-le}
use Rattle.std.proofs.Math.Seq.{take-append_seam, take-length}
use Rattle.std.specs.Io.KnownBytes.{prepend_known}
use Rattle.http_relay_wire.proofs.KnownBytes.{prepend_twice}

-- the first of the bytes stand at the front of a room, and the others stay in front of what is known
pub front_first : (front part rest : List ℕ) (n : ℕ) (known : Option (List ℕ)) → n ≤ length front → part ≡ take n front
    → prepend_known front known ≡ prepend_known (take n (part ++ rest)) (prepend_known (take (length front - n) (drop n front)) known)
front_first front part rest n known within is =
    let size : length part ≡ n = ap length is ∙ length-take-le n front within in
    let first : take n (part ++ rest) ≡ take n front = ap (λ k. take k (part ++ rest)) (sym size) ∙ take-append_seam part rest ∙ is in
    let others : take (length front - n) (drop n front) ≡ drop n front =
    ap (λ k. take k (drop n front)) (sym (length-drop n front)) ∙ take-length (drop n front) in
    rw (first, others) (ap (λ xs. prepend_known xs known) (sym (take-append-drop n front)) ∙ sym (prepend_twice known (take n front) (drop n front)))
