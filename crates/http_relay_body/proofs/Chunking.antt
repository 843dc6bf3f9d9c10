-- How much of a chunked body a chunk takes.
use Rattle.std.proofs.Common.{inl, inr, ℕ, ◌<◌, ◌≤◌, false, List, ◌++◌, length, length-append, ap, ◌∙◌, arith}
use Rattle.httparse.specs.Ascii.{crlf_bytes}
use Rattle.httparse.specs.Grammar.{print_chunk_line}
use Rattle.http_relay_body.specs.Parts.{IsChunkText}
use Rattle.http_relay_body.specs.Rooms.{Stand, takes_left, Carried}
use Rattle.http_relay_body.proofs.Sights.{three_size}

-- it has more bytes than can stand ahead of it
chunk_size_least : (text : List ℕ) → IsChunkText false text → 5 ≤ length text
chunk_size_least text (chunk, good, is) =
    let sizes = ap length is ∙ length-append (print_chunk_line chunk.line) (chunk.content ++ crlf_bytes) in
    omega (arith, sizes, three_size chunk.line good.line.form, length-append chunk.content crlf_bytes)

-- so bytes were taken
pub chunk_uses : (old new : Stand) (done : List ℕ) → Carried old new done → IsChunkText false done → length old.room.ahead ≤ 4 → takes_left new < takes_left old
chunk_uses old new done carried chunk few =
    elim carried.used [
      | inl none ↦
          (let sizes = ap length carried.came ∙ length-append done new.room.ahead in
          let ahead = length-append old.room.ahead carried.text in
          let nothing = ap length none.0 in
          absurd (omega (arith, sizes, ahead, nothing, few, chunk_size_least done chunk)))
      | inr fewer ↦ fewer
    ]
