-- What can follow a part, or its beginning, so that the whole is there.
use Rattle.std.proofs.Common.{◌≡◌, ℕ, zero, suc, ◌<◌, true, false, List, [], ◌∷◌, ◌++◌, length, replicate, None, refl, sym, ◌∙◌, subst, arith, append-nil}
use Rattle.std.proofs.lemmas.List.{length-replicate}
use Rattle.std.proofs.lemmas.List.Elements.{All-nil, All-cons}
use Rattle.std.specs.Char.{is_ascii_hexdigit}
use Rattle.httparse.specs.Ascii.{crlf_bytes}
use Rattle.httparse.specs.Grammar.{ChunkLine, IsChunkLine, print_chunk_line, lf}
use Rattle.http_relay_body.specs.declared.chunks.part.Part.TheVariants.{SizeLine, DataEnd, Trailer}
use Rattle.http_relay_body.specs.Chunks.{IsChunked}
use Rattle.http_relay_body.specs.Moves.{IsLong}
use Rattle.http_relay_body.specs.Parts.{IsSizeText, IsTrailerText, IsDataText, IsChunkText, IsPartText}
use Rattle.http_relay_body.proofs.Moves.{Finishes}
use Rattle.http_relay_body.proofs.Parts.{join_data, join_last, join_chunk, last_part, one_more}

-- so much data, behind which the line end follows
pub finishes_data : {A B : Type 0} (value : A) (size : ℕ) → Finishes {A = A} {B = B} (IsDataText size) (IsLong size) []
finishes_data value size later rest fits = (value, crlf_bytes, (rest, fits, refl))

-- the line end behind so much data
pub finishes_end : {A : Type 0} (value : A) (size : ℕ) (s : List ℕ) → length s ≡ size → Finishes {A = A} (IsDataText size) (IsPartText DataEnd) s
finishes_end value size s fits later rest is = (value, [], join_data value size s (rest ++ []) fits (append-nil rest ∙ is))

-- the shortest trailer
least_trailer : {A : Type 0} (value : A) → IsTrailerText value (10 ∷ [])
least_trailer value = ([], lf, record { form = All-nil _; few = omega arith; short = omega arith }, refl)

-- a size line, behind which a trailer or data can follow
pub finishes_size : Finishes IsChunkText (IsPartText SizeLine) []
finishes_size zero rest is = (true, 10 ∷ [], join_last (tt {0}) rest (10 ∷ []) is (least_trailer (tt {0})))
finishes_size (suc n) rest is =
    let zeros : List ℕ = replicate (suc n) 0 in
    (false, zeros ++ crlf_bytes, join_chunk (tt {0}) (suc n) rest (zeros ++ crlf_bytes) (omega arith) is (zeros, length-replicate {A = ℕ} (suc n) 0, refl))

-- the trailer behind a size line that tells 0
pub finishes_trailer : (s : List ℕ) → IsSizeText 0 s → Finishes IsChunkText (IsPartText Trailer) s
finishes_trailer s line later rest is = (true, [], join_last later s (rest ++ []) line (subst (IsTrailerText later) (sym (append-nil rest)) is))

-- the data behind one that tells more
pub finishes_chunk : {A : Type 0} (size : ℕ) (s : List ℕ) → 0 < size → IsSizeText size s → Finishes {B = A} IsChunkText (IsDataText size) s
finishes_chunk size s some line later rest is =
    (false, [], join_chunk later size s (rest ++ []) some line (subst (IsDataText size later) (sym (append-nil rest)) is))

-- the shortest size line
abbrev pub zero_line : ChunkLine
zero_line = record { digits = 48 ∷ []; pad = []; extension = None }

pub zero_form : IsChunkLine zero_line
zero_form = record { digits = (omega arith, omega arith, All-cons (λ b. is_ascii_hexdigit b ≡ true) 48 [] refl (All-nil _)); pad = All-nil _; extension = tt }

-- the shortest body
least_body : IsChunked (48 ∷ 13 ∷ 10 ∷ 10 ∷ [])
unfolding print_chunk_line
least_body =
    last_part (48 ∷ 13 ∷ 10 ∷ 10 ∷ [])
    (zero_line, [], lf, record { form = zero_form; short = omega arith }, refl, record { form = All-nil _; few = omega arith; short = omega arith }, refl)

-- a chunk, behind which the shortest body can follow, or the last part
pub finishes_chunks : {A : Type 0} (value : A) (before : List ℕ) → ((rest : List ℕ) → IsChunked rest → IsChunked (before ++ rest))
    → Finishes {A = A} (λ _ text. IsChunked text) IsChunkText before
finishes_chunks value before joins true rest is = (value, [], joins (rest ++ []) (subst IsChunked (sym (append-nil rest)) (last_part rest is)))
finishes_chunks value before joins false rest (chunk, good, is) = (
  value,
  48 ∷ 13 ∷ 10 ∷ 10 ∷ [],
  joins (rest ++ 48 ∷ 13 ∷ 10 ∷ 10 ∷ []) (subst (λ part. IsChunked (part ++ 48 ∷ 13 ∷ 10 ∷ 10 ∷ [])) (sym is) (one_more chunk (48 ∷ 13 ∷ 10 ∷ 10 ∷ []) good least_body)),
)
