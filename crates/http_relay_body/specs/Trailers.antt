-- Trailers and size lines that are cut short. No public clause cites this module.
use Rattle.std.specs.Prelude.{◌≡◌, ◌+◌, ◌≤◌, ◌↔◌, ℕ, suc, List, [], ◌∷◌, ◌++◌, length, take, All}
use Rattle.httparse.specs.Grammar.{AllPass, is_token_byte, is_value_byte, ChunkLine, ReadsChunkLine, Field, IsField, LineEnd, print_end, print_section}
use Rattle.http_relay_body.specs.declared.chunks.part.trailer.Place.{Place}
use Rattle.http_relay_body.specs.declared.chunks.part.trailer.Place.TheVariants.{Start, Name, Value, FieldEnd, LastEnd}
use Rattle.http_relay_body.specs.declared.chunks.part.trailer.Step.{Step}
use Rattle.http_relay_body.specs.declared.chunks.part.trailer.Step.TheVariants.{On, End, Never}
use Rattle.http_relay_body.specs.declared.chunks.part.trailer.Walk.{Walk}

-- The shortest line that the text is a front of has so many bytes more.
pub record LineNeeds (text : List ℕ) (bytes : ℕ) : Type 0 where
  pub enough : (more : List ℕ) × (line : ChunkLine) × ReadsChunkLine (text ++ more) line [] × (length more ≡ bytes)
  pub least : (more : List ℕ) (line : ChunkLine) → ReadsChunkLine (text ++ more) line [] → bytes ≤ length more

-- a trailer of so many fields, but for the limits
abbrev pub IsSection : ℕ → List ℕ → Type 0
IsSection count text = (fields : List Field) × (end : LineEnd) × All IsField fields × (length fields ≡ count) × (text ≡ print_section fields end)

-- the line feed of a field's line end, and the section behind it
abbrev pub IsFieldEndRest : ℕ → List ℕ → Type 0
IsFieldEndRest count text = (behind : List ℕ) × (others : ℕ) × IsSection others behind × (count ≡ suc others) × (text ≡ 10 ∷ behind)

-- what is left of a field's value, its line end, and the section behind it
abbrev pub IsValueRest : ℕ → List ℕ → Type 0
IsValueRest count text =
    (raw : List ℕ) × (end : LineEnd) × (behind : List ℕ) × (others : ℕ)
    × AllPass is_value_byte raw × IsSection others behind × (count ≡ suc others) × (text ≡ raw ++ (print_end end ++ behind))

-- what is left of a field's name, the colon, and what stands behind it
abbrev pub IsNameRest : ℕ → List ℕ → Type 0
IsNameRest count text = (name : List ℕ) × (behind : List ℕ) × AllPass is_token_byte name × IsValueRest count behind × (text ≡ name ++ 58 ∷ behind)

-- a rest of a section from this place on, in which so many fields end
abbrev pub IsRest : Place → ℕ → List ℕ → Type 0
IsRest Start count text = IsSection count text
IsRest Name count text = IsNameRest count text
IsRest Value count text = IsValueRest count text
IsRest FieldEnd count text = IsFieldEndRest count text
IsRest LastEnd count text = (count ≡ 0) × (text ≡ 10 ∷ [])

-- how many fields end where a text comes to this place: a line begins behind a field
abbrev pub fields_ended : Place → ℕ
fields_ended Start = 1
fields_ended Name = 0
fields_ended Value = 0
fields_ended FieldEnd = 0
fields_ended LastEnd = 0

-- a rest of a section behind a byte that leads there, where so many fields end with the byte and in the rest
abbrev pub IsBehind : Step → ℕ → List ℕ → Type 0
IsBehind (On place) count text = (others : ℕ) × (count ≡ fields_ended place + others) × IsRest place others text
IsBehind End count text = (count ≡ 0) × (text ≡ [])
IsBehind Never count text = ⊥

-- the shortest rest from this place on has so many bytes, and in no rest fewer fields end than in this one
pub record IsShortest (place : Place) (bytes fields : ℕ) : Type 0 where
  pub enough : (rest : List ℕ) × IsRest place fields rest × (length rest ≡ bytes)
  pub least : (count : ℕ) (rest : List ℕ) → IsRest place count rest → (bytes ≤ length rest) × (fields ≤ count)

-- The text ends at this place, and so many fields end in it: with some bytes behind it, it is a section just where they are a rest.
abbrev pub Stands : Place → ℕ → List ℕ → Type 0
Stands place fields text =
    (count : ℕ) (rest : List ℕ) → IsSection count (text ++ rest) ↔ ((others : ℕ) × (count ≡ fields + others) × IsRest place others rest)

-- the walk has come through a front of this text
pub record Walked (walk : Walk) (text : List ℕ) : Type 0 where
  pub within : walk.bytes ≤ length text
  pub few : walk.fields ≤ walk.bytes
  pub stands : Stands walk.place walk.fields (take walk.bytes text)
