-- The chunks that stand whole at the front of some bytes. No public clause cites this module.
use Rattle.std.specs.Prelude.{◌<◌, ◌≤◌, ℕ, List, length, take, Option, Some, None}
use Rattle.http_relay_body.specs.Moves.{Begins}
use Rattle.http_relay_body.specs.Parts.{IsDataText, IsChunkText, IsPartText}
use Rattle.http_relay_body.specs.declared.chunks.part.Part.{Part}
use Rattle.http_relay_body.specs.declared.chunks.whole.Found.{Found}
use Rattle.http_relay_body.specs.declared.chunks.whole.WholeChunk.{WholeChunk}

-- this part stands whole at the front of the text, or none does
abbrev pub FindsPart : Part → List ℕ → Option Found → Type 0
FindsPart part text (Some found) = (found.len ≤ length text) × IsPartText part found.value (take found.len text)
FindsPart part text None = ¬ Begins (IsPartText part) text

-- so much data stands there with the line end behind it, and both have so many bytes, or they don't
abbrev pub FindsData : ℕ → List ℕ → Option ℕ → Type 0
FindsData size text (Some len) = (len ≤ length text) × IsDataText size len (take len text)
FindsData size text None = ¬ Begins {A = ℕ} (IsDataText size) text

-- a chunk stands there, or the last part of a body, or neither does
abbrev pub FindsChunk : List ℕ → Option WholeChunk → Type 0
FindsChunk text (Some chunk) = (0 < chunk.len) × (chunk.len ≤ length text) × IsChunkText chunk.is_last (take chunk.len text)
FindsChunk text None = ¬ Begins IsChunkText text
