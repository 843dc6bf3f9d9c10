-- Bytes joined by a mark, and cut there again.
use Rattle.std.proofs.Common.{◌≡◌, ◌≢◌, ℕ, false, eqb, List, [], ◌∷◌, ◌++◌, ap, ◌∙◌, arith}
use Rattle.std.specs.List.{All, join_with_byte}
use Rattle.std.proofs.lemmas.List.Elements.{All-append, All-cons, All-head, All-tail}
use Rattle.std.proofs.lemmas.List.Splits.{slice_split_at, slice_split_none, join_with_byte-slice_split}
use Rattle.std.proofs.lemmas.Bool.Decides.{nat_tests}
use Rattle.lb_types_text.specs.Parts.{parts}

-- no byte is the mark
abbrev pub HasNo : ℕ → List ℕ → Type 0
HasNo mark bytes = All (λ b. eqb b mark ≡ false) bytes

-- a part that stands before a mark is the first one
pub part_before : (mark : ℕ) (part rest : List ℕ) → HasNo mark part → parts mark (part ++ mark ∷ rest) ≡ part ∷ parts mark rest
part_before mark part rest free = slice_split_at (λ b. eqb b mark) part mark rest free (grind (arith, nat_tests))

-- bytes without a mark are one part
pub part_alone : (mark : ℕ) (part : List ℕ) → HasNo mark part → parts mark part ≡ part ∷ []
part_alone mark part free = slice_split_none (λ b. eqb b mark) part free

-- parts without a mark, joined by it, come apart again
pub parts_join : (mark : ℕ) (part : List ℕ) (more : List (List ℕ)) → All (HasNo mark) (part ∷ more) → parts mark (join_with_byte mark (part ∷ more)) ≡ part ∷ more
parts_join mark part [] free = part_alone mark part (All-head (HasNo mark) part [] free)
parts_join mark part (next ∷ more) free =
    let first = part_before mark part (join_with_byte mark (next ∷ more)) (All-head (HasNo mark) part (next ∷ more) free) in
    let rest = parts_join mark next more (All-tail (HasNo mark) part (next ∷ more) free) in
    first ∙ ap (λ ps. part ∷ ps) rest

-- the parts, joined by the mark, are the bytes
pub join_parts : (mark : ℕ) (bytes : List ℕ) → join_with_byte mark (parts mark bytes) ≡ bytes
join_parts mark bytes = join_with_byte-slice_split mark bytes

-- what has no mark keeps none where another such text follows, joined by a byte that is no mark
pub free_join : (mark other : ℕ) (part : List ℕ) (more : List (List ℕ)) → other ≢ mark → All (HasNo mark) (part ∷ more) → HasNo mark (join_with_byte other (part ∷ more))
free_join mark other part [] differs free = All-head (HasNo mark) part [] free
free_join mark other part (next ∷ more) differs free =
    All-append (λ b. eqb b mark ≡ false) part (other ∷ join_with_byte other (next ∷ more)) (All-head (HasNo mark) part (next ∷ more) free)
    (All-cons (λ b. eqb b mark ≡ false) other (join_with_byte other (next ∷ more)) (grind (arith, nat_tests)) (free_join mark other next more differs (All-tail (HasNo mark) part (next ∷ more) free)))
