-- Why bytes are, or never become, a size line or a trailer.
use Rattle.std.proofs.Common.{◌≡◌, ℕ, ◌+◌, ◌<◌, ◌≤◌, List, [], ◌∷◌, ◌++◌, length, length-append, take, drop, get_or, refl, ap, sym, ◌∙◌, arith}
use Rattle.std.proofs.lemmas.List.{take-append-le, take-append-drop}
use Rattle.std.proofs.Math.Seq.{take-append_seam, drop-append_seam}
use Rattle.std.specs.List.{flat_map}
use Rattle.httparse.specs.Grammar.{ChunkLine, IsChunkLine, print_chunk_line, HasNoChunkLine, NeverHasChunkLine, LineEnd, crlf, lf, print_end, print_extension, print_field, print_section, HasNoSection}
use Rattle.http_relay_body.specs.Moves.{Begins, NeverBegins}
use Rattle.http_relay_body.specs.Parts.{IsSizeText, IsTrailerText}

-- ---- fronts

pub empty : (xs : List ℕ) → length xs ≡ 0 → xs ≡ []
empty [] e = refl
empty (x ∷ xs) e = absurd (omega (arith, e))

-- fronts of one length are the same
pub split_same : (a b r q : List ℕ) → length a ≡ length b → a ++ r ≡ b ++ q → (a ≡ b) × (r ≡ q)
split_same a b r q size e = (
  sym (take-append_seam a r) ∙ ap (λ n. take n (a ++ r)) size ∙ ap (take (length b)) e ∙ take-append_seam b q,
  sym (drop-append_seam a r) ∙ ap (λ n. drop n (a ++ r)) size ∙ ap (drop (length b)) e ∙ drop-append_seam b q,
)

-- what stands at the front of a text stands at the front of its first bytes, if they are as many
pub front_within : (text more front rest : List ℕ) → text ++ more ≡ front ++ rest → length front ≤ length text → text ≡ front ++ drop (length front) text
front_within text more front rest same fits =
    let n = length front in
    let first : take n text ≡ front = sym (take-append-le n text more fits) ∙ ap (take n) same ∙ take-append_seam front rest in
    sym (take-append-drop n text) ∙ ap (λ xs. xs ++ drop n text) first

-- ---- size lines

pub none_size : (text : List ℕ) → HasNoChunkLine text → ¬ Begins IsSizeText text
none_size text none (size, front, rest, (line, ok, tells, is), parted) = none line rest (ok.form, parted ∙ ap (λ xs. xs ++ rest) is)

pub never_size : (text : List ℕ) → NeverHasChunkLine text → NeverBegins IsSizeText text
never_size text never more = none_size (text ++ more) (never more)

-- ---- trailers

pub none_trailer : {A : Type 0} (text : List ℕ) → HasNoSection text → ¬ Begins (IsTrailerText {A = A}) text
none_trailer text none (_, front, rest, (fields, end, ok, is), parted) = none fields end rest (ok.form, parted ∙ ap (λ xs. xs ++ rest) is)

-- a line end ends with a line feed
pub feed_of : (end : LineEnd) → (front : List ℕ) × (print_end end ≡ front ++ 10 ∷ [])
feed_of crlf = (13 ∷ [], refl)
feed_of lf = ([], refl)

pub last_same : (xs ys : List ℕ) (a b : ℕ) → xs ++ a ∷ [] ≡ ys ++ b ∷ [] → a ≡ b
last_same xs ys a b e =
    let sizes = sym (length-append xs (a ∷ [])) ∙ ap length e ∙ length-append ys (b ∷ []) in
    let same = split_same xs ys (a ∷ []) (b ∷ []) (omega (arith, sizes)) e in
    ap (λ l. get_or l 0 0) same.1

-- ---- the first byte

-- a size line has bytes
some_size : (line : ChunkLine) → IsChunkLine line → 0 < length (print_chunk_line line)
unfolding print_chunk_line
some_size line form =
    let front = line.digits ++ line.pad ++ print_extension line.extension in
    let sizes : length (print_chunk_line line) ≡ length front + 2 = length-append front (print_end crlf) in
    omega (arith, sizes)

pub nothing_size : HasNoChunkLine []
nothing_size line rest reads =
    let sizes = ap length reads.1 ∙ length-append (print_chunk_line line) rest in
    absurd (omega (arith, sizes, some_size line reads.0))

-- a trailer has bytes
pub nothing_section : HasNoSection []
nothing_section fields last rest reads =
    let (front, feed) = feed_of last in
    let sizes = ap length reads.1 ∙ length-append (print_section fields last) rest
    ∙ ap (λ n. n + length rest) (length-append (flat_map print_field fields) (print_end last) ∙ ap (λ xs. length (flat_map print_field fields) + length xs) feed
    ∙ ap (λ n. length (flat_map print_field fields) + n) (length-append front (10 ∷ []))) in
    absurd (omega (arith, sizes))
