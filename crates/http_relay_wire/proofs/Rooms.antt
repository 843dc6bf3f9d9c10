-- A room that is filled from the front by one read after another.
use Rattle.std.proofs.Common.{◌≡◌, ℕ, ◌+◌, ◌≤◌, List, ◌++◌, length, take, drop, ap, sym, ◌∙◌}
use Rattle.std.proofs.lemmas.List.{take-append-le, take-append-drop, length-take-le}
use Rattle.std.proofs.Math.Seq.{take-append-add, take-append_seam}
use borrow.Rule.Slice.PartMut.{put_mid}

-- what stood in front still does, and what was read stands behind it
pub read_behind : (room part : List ℕ) (filled size count : ℕ) → filled ≤ length room → count ≤ length part
    → take (filled + count) (put_mid filled size room part) ≡ take filled room ++ take count part
read_behind room part filled size count fits within =
    let front = take filled room in
    let size_is : length front ≡ filled = length-take-le filled room fits in
    ap (λ n. take (n + count) (put_mid filled size room part)) (sym size_is)
    ∙ take-append-add front (part ++ drop size (drop filled room)) count
    ∙ ap (λ xs. front ++ xs) (take-append-le count part (drop size (drop filled room)) within)

-- what stands at the front of a text stands at the front of its first bytes, if they are as many
pub front_within : (text more front rest : List ℕ) → text ++ more ≡ front ++ rest → length front ≤ length text → text ≡ front ++ drop (length front) text
front_within text more front rest same fits =
    let n = length front in
    let first : take n text ≡ front = sym (take-append-le n text more fits) ∙ ap (take n) same ∙ take-append_seam front rest in
    sym (take-append-drop n text) ∙ ap (λ xs. xs ++ drop n text) first
