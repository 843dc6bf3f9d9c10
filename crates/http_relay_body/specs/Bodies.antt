-- The bodies of requests: RFC 9112, section 6.3 (none, so many bytes) and section 7.1 (chunks).
use Rattle.std.specs.Prelude.{◌≡◌, ℕ, List, [], ◌++◌, length, Result, Ok, Err}
use Rattle.http_relay_body.specs.Chunks.{Chunk, IsChunk, print_chunk, IsChunked}
use Rattle.http_relay_forward.specs.HeadView.{HeadView}
use Rattle.http_relay_forward.specs.Framing.{framing}
use Rattle.http_relay_forward.specs.declared.framing.BodyKind.{BodyKind}
use Rattle.http_relay_forward.specs.declared.framing.BodyKind.TheVariants.{Empty, Length, Chunked}
use Rattle.http_relay_body.specs.declared.fault.BodyFault.{BodyFault}
use Rattle.http_relay_body.specs.declared.fault.BodyFault.TheVariants.{Truncated, Client, Server, BadChunk}

-- the text is a body of this kind
abbrev pub IsBody : BodyKind → List ℕ → Type 0
IsBody Empty text = text ≡ []
IsBody (Length count) text = length text ≡ count
IsBody Chunked text = IsChunked text

-- the text is the body that stands behind this head: one of the kind that the head tells
abbrev pub IsBodyOf : HeadView → List ℕ → Type 0
IsBodyOf head text = (kind : BodyKind) × (framing head ≡ Ok kind) × IsBody kind text

-- a body of this kind stands at the front of the input
abbrev pub BeginsWithBody : BodyKind → List ℕ → Type 0
BeginsWithBody kind input = (body : List ℕ) × (rest : List ℕ) × IsBody kind body × (input ≡ body ++ rest)

-- the text is a front of a body of this kind: with some bytes behind it, it is one
abbrev pub MayBecomeBody : BodyKind → List ℕ → Type 0
MayBecomeBody kind text = (more : List ℕ) × IsBody kind (text ++ more)

-- what an answer says of the whole input, be it read or not: a body stands at its front, or at 92 and 94 none does; at 92 the
-- input is a front of one
abbrev pub JudgesInput : BodyKind → List ℕ → Result (Unit {0}) BodyFault → Type 0
JudgesInput kind input (Ok value) = BeginsWithBody kind input
JudgesInput kind input (Err Truncated) = ¬ BeginsWithBody kind input × MayBecomeBody kind input
JudgesInput kind input (Err BadChunk) = ¬ BeginsWithBody kind input
JudgesInput kind input (Err (Client fault)) = Unit {0}
JudgesInput kind input (Err (Server fault)) = Unit {0}

-- the bytes are the front of each body of this kind that begins with them, and behind them stands one of that kind
abbrev pub IsFront : BodyKind → List ℕ → BodyKind → Type 0
IsFront kind front rest_kind =
    (rest : List ℕ) → (IsBody rest_kind rest → IsBody kind (front ++ rest)) × (BeginsWithBody kind (front ++ rest) → BeginsWithBody rest_kind rest)

-- a chunk stands at the front of the text
abbrev pub BeginsWithChunk : List ℕ → Type 0
BeginsWithChunk text = (chunk : Chunk) × (rest : List ℕ) × IsChunk chunk × (text ≡ print_chunk chunk ++ rest)

-- of a body of this kind nothing whole stands at the front of the text: the body is empty, or the text is; or no chunk stands there
-- and not the last one's line with the trailer
abbrev pub HasNothingWhole : BodyKind → List ℕ → Type 0
HasNothingWhole Empty text = Unit {0}
HasNothingWhole (Length count) text = text ≡ []
HasNothingWhole Chunked text = ¬ BeginsWithChunk text × ¬ BeginsWithBody Chunked text
