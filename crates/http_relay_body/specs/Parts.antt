-- The parts that a chunked body is passed on in. No public clause cites this module.
use Rattle.std.specs.Prelude.{◌≡◌, ◌+◌, ℕ, zero, suc, Bool, true, false, List, ◌++◌, length}
use Rattle.httparse.specs.Ascii.{crlf_bytes}
use Rattle.httparse.specs.Grammar.{ChunkLine, print_chunk_line, chunk_size, Field, LineEnd, print_section}
use Rattle.http_relay_body.specs.declared.chunks.part.Part.{Part}
use Rattle.http_relay_body.specs.declared.chunks.part.Part.TheVariants.{SizeLine, DataEnd, Trailer}
use Rattle.http_relay_body.specs.Chunks.{IsSizeLine, IsTrailer, Chunk, IsChunk, print_chunk}

-- a size line that tells this size
abbrev pub IsSizeText : ℕ → List ℕ → Type 0
IsSizeText size text = (line : ChunkLine) × IsSizeLine line × (chunk_size line ≡ size) × (text ≡ print_chunk_line line)

-- a trailer
abbrev pub IsTrailerText : {A : Type 0} → A → List ℕ → Type 0
IsTrailerText _ text = (fields : List Field) × (end : LineEnd) × IsTrailer fields end × (text ≡ print_section fields end)

-- the line end behind a chunk's data
abbrev pub IsLineEnd : {A : Type 0} → A → List ℕ → Type 0
IsLineEnd _ text = text ≡ crlf_bytes

-- so much data, and the line end behind it
abbrev pub IsDataText : ℕ → {A : Type 0} → A → List ℕ → Type 0
IsDataText size _ text = (content : List ℕ) × (length content ≡ size) × (text ≡ content ++ crlf_bytes)

-- a chunk; or if it is the last part, the size line that tells 0, and the trailer
abbrev pub IsChunkText : Bool → List ℕ → Type 0
IsChunkText false text = (chunk : Chunk) × IsChunk chunk × (text ≡ print_chunk chunk)
IsChunkText true text =
    (line : ChunkLine) × (fields : List Field) × (end : LineEnd)
    × IsSizeLine line × (chunk_size line ≡ 0) × IsTrailer fields end × (text ≡ print_chunk_line line ++ print_section fields end)

-- a part other than data; the value is the size that a size line tells, and else any
abbrev pub IsPartText : Part → ℕ → List ℕ → Type 0
IsPartText SizeLine size text = IsSizeText size text
IsPartText DataEnd value text = IsLineEnd value text
IsPartText Trailer value text = IsTrailerText value text

-- The least bytes that can stand from the beginning of a part to the body's end. The shortest of the rests, `0` CR LF and a trailer
-- of one line feed, has 4.
abbrev pub least_from : Part → ℕ
least_from SizeLine = 4
least_from DataEnd = 6
least_from Trailer = 1

-- the least behind a size line that tells this size
abbrev pub least_behind_size : ℕ → ℕ
least_behind_size zero = 1
least_behind_size (suc size) = suc size + 6

-- the least behind a part
abbrev pub least_behind : Part → ℕ → ℕ
least_behind SizeLine size = least_behind_size size
least_behind DataEnd value = 4
least_behind Trailer value = 0
