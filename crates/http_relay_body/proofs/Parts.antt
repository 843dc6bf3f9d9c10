-- How the parts of a chunked body follow one another, and why bytes never become one.
use Rattle.std.proofs.Common.{◌≡◌, ◌≢◌, ℕ, ◌<◌, true, false, List, [], ◌∷◌, ◌++◌, length, length-append, get_or, refl, ap, sym, ◌∙◌, subst, arith, append_assoc}
use Rattle.std.proofs.lemmas.List.{append_cancel_left}
use Rattle.std.specs.List.{flat_map}
use Rattle.httparse.specs.Ascii.{crlf_bytes}
use Rattle.httparse.specs.Grammar.{ChunkLine, IsChunkLine, print_chunk_line, chunk_size, Field, LineEnd, print_section}
use Rattle.httparse.proofs.ChunkLemmas.{chunk_line_unique}
use Rattle.http_relay_body.specs.Chunks.{Chunk, IsChunk, print_chunk, IsChunkedBody, print_chunked, IsChunked}
use Rattle.http_relay_body.specs.Moves.{Begins, NeverBegins, IsLong}
use Rattle.http_relay_body.proofs.Lines.{split_same}
use Rattle.http_relay_body.specs.Parts.{IsSizeText, IsTrailerText, IsLineEnd, IsDataText, IsChunkText}

-- ---- chunks

chunk_rest : (chunk : Chunk) (rest : List ℕ) → print_chunk chunk ++ rest ≡ print_chunk_line chunk.line ++ (chunk.content ++ (crlf_bytes ++ rest))
chunk_rest chunk rest =
    append_assoc (print_chunk_line chunk.line) (chunk.content ++ crlf_bytes) rest
    ∙ ap (λ (xs : List ℕ). print_chunk_line chunk.line ++ xs) (append_assoc chunk.content crlf_bytes rest)

-- a chunk begins with a size line
pub first_size : (rest : List ℕ) → Begins IsChunkText rest → Begins IsSizeText rest
first_size rest (true, front, more, (line, fields, end, ok, zero, trailer, is), parted) =
    let section = print_section fields end in
    (chunk_size line, print_chunk_line line, section ++ more, (line, ok, refl, refl), parted ∙ ap (λ xs. xs ++ more) is ∙ append_assoc (print_chunk_line line) section more)
first_size rest (false, front, more, (chunk, good, is), parted) =
    (chunk_size chunk.line, print_chunk_line chunk.line, chunk.content ++ (crlf_bytes ++ more), (chunk.line, good.line, refl, refl), parted ∙ ap (λ xs. xs ++ more) is ∙ chunk_rest chunk more)

-- what stands behind a size line that tells 0 makes the last part
pub join_last : {A : Type 0} (value : A) (s rest : List ℕ) → IsSizeText 0 s → IsTrailerText value rest → IsChunkText true (s ++ rest)
join_last value s rest (line, ok, zero, is) (fields, end, good, section) =
    (line, fields, end, ok, zero, good, ap (λ xs. xs ++ rest) is ∙ ap (λ xs. print_chunk_line line ++ xs) section)

-- what stands behind one that tells more makes a chunk
pub join_chunk : {A : Type 0} (value : A) (size : ℕ) (s rest : List ℕ) → 0 < size → IsSizeText size s → IsDataText size value rest → IsChunkText false (s ++ rest)
join_chunk value size s rest some (line, ok, tells, is) (content, fits, data_is) = (
  record { line = line; content = content },
  record { line = ok; some = omega (arith, some, fits); size = tells ∙ sym fits },
  ap (λ xs. xs ++ rest) is ∙ ap (λ xs. print_chunk_line line ++ xs) data_is,
)

-- ---- the data of a chunk

-- it begins with so many bytes
pub first_data : {A : Type 0} (size : ℕ) (rest : List ℕ) → Begins {A = A} (IsDataText size) rest → Begins {A = A} (IsLong size) rest
first_data size rest (value, front, more, (content, as_many, is), parted) =
    (value, content, crlf_bytes ++ more, as_many, parted ∙ ap (λ xs. xs ++ more) is ∙ append_assoc content crlf_bytes more)

-- and the line end behind them makes it whole
pub join_data : {A : Type 0} (value : A) (size : ℕ) (s rest : List ℕ) → length s ≡ size → IsLineEnd value rest → IsDataText size value (s ++ rest)
join_data value size s rest fits is = (s, fits, ap (λ xs. s ++ xs) is)

-- a line end has two bytes
pub short_end : {A : Type 0} (text : List ℕ) → length text < 2 → ¬ Begins {A = A} IsLineEnd text
short_end text short (_, front, rest, is, parted) =
    let sizes = ap length parted ∙ length-append front rest in
    let two : length front ≡ 2 = ap length is in
    absurd (omega (arith, short, sizes, two))

-- the second of which is a line feed
pub other_second : {A : Type 0} (first second : ℕ) → second ≢ 10 → NeverBegins {A = A} IsLineEnd (first ∷ second ∷ [])
other_second first second other more (_, front, rest, is, parted) = other (ap (λ xs. get_or xs 1 0) (parted ∙ ap (λ xs. xs ++ rest) is))

-- ---- one size line

-- one size line stands at the front
line_same : (a b : ChunkLine) (r q : List ℕ) → IsChunkLine a → IsChunkLine b → print_chunk_line a ++ r ≡ print_chunk_line b ++ q → (a ≡ b) × (r ≡ q)
line_same a b r q x y e = chunk_line_unique (print_chunk_line a ++ r) a b r q (x, refl) (y, e)

-- behind a size line that tells 0 stands the trailer
pub skip_last : {A : Type 0} (value : A) (s rest : List ℕ) → IsSizeText 0 s → Begins IsChunkText (s ++ rest) → Begins (IsTrailerText {A = A}) rest
skip_last value s rest (line, ok, tells, is) (true, front, more, (other, fields, end, good, zero, trailer, text), parted) =
    let section = print_section fields end in
    let same = line_same line other rest (section ++ more) ok.form good.form
    (sym (ap (λ xs. xs ++ rest) is) ∙ parted ∙ ap (λ xs. xs ++ more) text ∙ append_assoc (print_chunk_line other) section more) in
    (value, section, more, (fields, end, trailer, refl), same.1)
skip_last value s rest (line, ok, tells, is) (false, front, more, (chunk, good, text), parted) =
    let same = line_same line chunk.line rest _ ok.form good.line.form
    (sym (ap (λ xs. xs ++ rest) is) ∙ parted ∙ ap (λ xs. xs ++ more) text ∙ chunk_rest chunk more) in
    let size = sym tells ∙ ap chunk_size same.0 ∙ good.size in
    absurd (omega (arith, size, good.some))

-- behind a size line that tells more stands the data
pub skip_size : {A : Type 0} (value : A) (size : ℕ) (s rest : List ℕ) → 0 < size → IsSizeText size s → Begins IsChunkText (s ++ rest) → Begins (IsDataText size {A = A}) rest
skip_size value size s rest some (line, ok, tells, is) (true, front, more, (other, fields, end, good, zero, trailer, text), parted) =
    let section = print_section fields end in
    let same = line_same line other rest (section ++ more) ok.form good.form
    (sym (ap (λ xs. xs ++ rest) is) ∙ parted ∙ ap (λ xs. xs ++ more) text ∙ append_assoc (print_chunk_line other) section more) in
    let none = sym tells ∙ ap chunk_size same.0 ∙ zero in
    absurd (omega (arith, none, some))
skip_size value size s rest some (line, ok, tells, is) (false, front, more, (chunk, good, text), parted) =
    let same = line_same line chunk.line rest _ ok.form good.line.form
    (sym (ap (λ xs. xs ++ rest) is) ∙ parted ∙ ap (λ xs. xs ++ more) text ∙ chunk_rest chunk more) in (
      value,
      chunk.content ++ crlf_bytes,
      more,
      (chunk.content, sym good.size ∙ sym (ap chunk_size same.0) ∙ tells, refl),
      same.1 ∙ sym (append_assoc chunk.content crlf_bytes more),
    )

-- behind so much data stands the line end
pub skip_data : {A : Type 0} (size : ℕ) (s rest : List ℕ) → length s ≡ size → Begins (IsDataText size {A = A}) (s ++ rest) → Begins (IsLineEnd {A = A}) rest
skip_data size s rest fits (value, front, more, (content, as_many, text), parted) =
    let same = split_same s content rest (crlf_bytes ++ more) (fits ∙ sym as_many)
    (parted ∙ ap (λ xs. xs ++ more) text ∙ append_assoc content crlf_bytes more) in
    (value, crlf_bytes, more, refl, same.1)

-- a chunk before a chunked body
pub one_more : (chunk : Chunk) (rest : List ℕ) → IsChunk chunk → IsChunked rest → IsChunked (print_chunk chunk ++ rest)
one_more chunk rest good (body, valid, is) =
    let joined = record body { chunks = chunk ∷ body.chunks } in (
      joined,
      record { chunks = (good, valid.chunks); last = valid.last; size = valid.size; trailer = valid.trailer },
      ap (λ xs. print_chunk chunk ++ xs) is
          ∙ sym (append_assoc (print_chunk chunk) (flat_map print_chunk body.chunks) (print_chunk_line body.last ++ print_section body.trailer body.end)),
    )

-- the last part alone is a chunked body
pub last_part : (text : List ℕ) → IsChunkText true text → IsChunked text
last_part text (line, fields, end, good, zero, trailer, is) =
    (record { chunks = []; last = line; trailer = fields; end = end }, record { chunks = tt; last = good; size = zero; trailer = trailer }, is)

-- a chunked body of these parts begins with a chunk, or with the last part
first_of : (chunks : List Chunk) (last : ChunkLine) (trailer : List Field) (end : LineEnd) (text rest more : List ℕ)
    → IsChunkedBody (record { chunks = chunks; last = last; trailer = trailer; end = end })
    → text ≡ print_chunked (record { chunks = chunks; last = last; trailer = trailer; end = end })
    → rest ≡ text ++ more → Begins IsChunkText rest
first_of [] last trailer end text rest more valid is parted =
    (true, text, more, (last, trailer, end, valid.last, valid.size, valid.trailer, is), parted)
first_of (chunk ∷ chunks) last trailer end text rest more valid is parted =
    let ending = print_chunk_line last ++ print_section trailer end in
    let behind = flat_map print_chunk chunks ++ ending in (
      false,
      print_chunk chunk,
      behind ++ more,
      (chunk, valid.chunks.0, refl),
      parted ∙ ap (λ xs. xs ++ more) (is ∙ append_assoc (print_chunk chunk) (flat_map print_chunk chunks) ending) ∙ append_assoc (print_chunk chunk) behind more,
    )

-- a chunked body begins with a chunk, or with the last part
pub first_part : {A : Type 0} (rest : List ℕ) → Begins {A = A} (λ _ text. IsChunked text) rest → Begins IsChunkText rest
first_part rest (value, front, more, (body, valid, is), parted) =
    first_of body.chunks body.last body.trailer body.end front rest more valid is parted

-- behind a chunk stands the rest of a body of these parts
skip_of : {A : Type 0} (value : A) (chunk : Chunk) (chunks : List Chunk) (last : ChunkLine) (trailer : List Field) (end : LineEnd) (text rest more : List ℕ)
    → IsChunk chunk → IsChunkedBody (record { chunks = chunks; last = last; trailer = trailer; end = end })
    → text ≡ print_chunked (record { chunks = chunks; last = last; trailer = trailer; end = end })
    → print_chunk chunk ++ rest ≡ text ++ more → Begins {A = A} (λ _ part. IsChunked part) rest
skip_of value chunk [] last trailer end text rest more good valid is parted =
    let same = line_same chunk.line last _ (print_section trailer end ++ more) good.line.form valid.last.form
    (sym (chunk_rest chunk rest) ∙ parted ∙ ap (λ xs. xs ++ more) is ∙ append_assoc (print_chunk_line last) (print_section trailer end) more) in
    let none = sym good.size ∙ ap chunk_size same.0 ∙ valid.size in
    absurd (omega (arith, none, good.some))
skip_of value chunk (other ∷ chunks) last trailer end text rest more good valid is parted =
    let ending = print_chunk_line last ++ print_section trailer end in
    let behind = flat_map print_chunk chunks ++ ending in
    let found = sym (chunk_rest chunk rest) ∙ parted ∙ ap (λ xs. xs ++ more) (is ∙ append_assoc (print_chunk other) (flat_map print_chunk chunks) ending)
    ∙ append_assoc (print_chunk other) behind more ∙ chunk_rest other (behind ++ more) in
    let same = line_same chunk.line other.line _ _ good.line.form valid.chunks.0.line.form found in
    let sizes = sym good.size ∙ ap chunk_size same.0 ∙ valid.chunks.0.size in
    let same_data = split_same chunk.content other.content _ _ sizes same.1 in (
      value,
      behind,
      more,
      (
        record { chunks = chunks; last = last; trailer = trailer; end = end },
        record { chunks = valid.chunks.1; last = valid.last; size = valid.size; trailer = valid.trailer },
        refl,
      ),
      append_cancel_left crlf_bytes rest (behind ++ more) same_data.1,
    )

-- behind a chunk stands the rest of the body
pub skip_chunk : {A : Type 0} (chunk : Chunk) (rest : List ℕ) → IsChunk chunk
    → Begins {A = A} (λ _ text. IsChunked text) (print_chunk chunk ++ rest) → Begins {A = A} (λ _ text. IsChunked text) rest
skip_chunk chunk rest good (value, front, more, (body, valid, is), parted) =
    skip_of value chunk body.chunks body.last body.trailer body.end front rest more good valid is parted

-- one chunk more stands before the rest of a body
pub join_chunks : (before text rest : List ℕ) → ((more : List ℕ) → IsChunked more → IsChunked (before ++ more)) → IsChunkText false text → IsChunked rest → IsChunked ((before ++ text) ++ rest)
join_chunks before text rest joins (chunk, good, is) body =
    subst IsChunked (ap (λ part. before ++ (part ++ rest)) (sym is) ∙ sym (append_assoc before text rest)) (joins (print_chunk chunk ++ rest) (one_more chunk rest good body))

-- the rest of a body stands behind one chunk more
pub skip_chunks : {A : Type 0} (before text rest : List ℕ)
    → ((more : List ℕ) → Begins {A = A} (λ _ part. IsChunked part) (before ++ more) → Begins {A = A} (λ _ part. IsChunked part) more)
    → IsChunkText false text → Begins {A = A} (λ _ part. IsChunked part) ((before ++ text) ++ rest) → Begins {A = A} (λ _ part. IsChunked part) rest
skip_chunks {A} before text rest skips (chunk, good, is) begins =
    skip_chunk chunk rest good (skips (print_chunk chunk ++ rest)
    (subst (λ part. Begins {A = A} (λ _ body. IsChunked body) part) (append_assoc before text rest ∙ ap (λ part. before ++ (part ++ rest)) is) begins))
