-- Chunked bodies: RFC 9112, section 7.1, with lines and fields as httparse reads them. Our own: the limits of 256 bytes for a size line, and of 8192 bytes and 100 fields for a trailer.
use Rattle.std.specs.Prelude.{◌≡◌, ℕ, ◌≤◌, ◌<◌, List, ◌++◌, length, All}
use Rattle.std.specs.List.{flat_map, AllByRecursion}
use Rattle.httparse.specs.Ascii.{crlf_bytes}
use Rattle.httparse.specs.Grammar.{ChunkLine, IsChunkLine, print_chunk_line, chunk_size, Field, IsField, LineEnd, print_section}
use Rattle.http_relay_body.specs.declared.chunks.part.trailer.TheConstants.{MOST_FIELDS, MOST_TRAILER_BYTES}
use Rattle.http_relay_body.specs.declared.chunks.part.size_line.TheConstants.{MOST_LINE_BYTES}

-- a size line within the limit
pub record IsSizeLine (line : ChunkLine) : Type 0 where
  pub form : IsChunkLine line
  pub short : length (print_chunk_line line) ≤ MOST_LINE_BYTES

-- a trailer within the limits
pub record IsTrailer (fields : List Field) (end : LineEnd) : Type 0 where
  pub form : All IsField fields
  pub few : length fields ≤ MOST_FIELDS
  pub short : length (print_section fields end) ≤ MOST_TRAILER_BYTES

-- a chunk: its size line, and its data
pub record Chunk : Type 0 where
  pub line : ChunkLine
  pub content : List ℕ

-- the bytes of a chunk
abbrev pub print_chunk : Chunk → List ℕ
print_chunk chunk = print_chunk_line chunk.line ++ (chunk.content ++ crlf_bytes)

-- there is data, as much as the size line tells
pub record IsChunk (chunk : Chunk) : Type 0 where
  pub line : IsSizeLine chunk.line
  pub some : 0 < length chunk.content
  pub size : chunk_size chunk.line ≡ length chunk.content

-- chunks, the size line that tells 0, and the trailer
pub record ChunkedBody : Type 0 where
  pub chunks : List Chunk
  pub last : ChunkLine
  pub trailer : List Field
  pub end : LineEnd

-- the bytes of a chunked body
abbrev pub print_chunked : ChunkedBody → List ℕ
print_chunked body = flat_map print_chunk body.chunks ++ (print_chunk_line body.last ++ print_section body.trailer body.end)

-- each part is of its class
pub record IsChunkedBody (body : ChunkedBody) : Type 0 where
  pub chunks : AllByRecursion IsChunk body.chunks
  pub last : IsSizeLine body.last
  pub size : chunk_size body.last ≡ 0
  pub trailer : IsTrailer body.trailer body.end

-- the text is a chunked body
abbrev pub IsChunked : List ℕ → Type 0
IsChunked text = (body : ChunkedBody) × IsChunkedBody body × (text ≡ print_chunked body)
