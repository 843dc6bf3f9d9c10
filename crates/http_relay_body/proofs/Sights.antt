-- What is seen of a part, and how many bytes must still come.
use Rattle.std.proofs.Common.{◌≡◌, ◌≢◌, ◌⊎◌, inl, inr, ℕ, zero, suc, ◌+◌, ◌*◌, ◌-◌, ◌<◌, ◌≤◌, true, List, [], ◌∷◌, ◌++◌, length, length-append, length-drop, take, drop, get_or, refl, ap, sym, ◌∙◌, subst, arith, append_assoc, append-nil, take-append-drop, le_refl, le_trans}
use Rattle.std.proofs.lemmas.Bool.{cases_lt}
use Rattle.std.proofs.lemmas.List.{take-take, length-take-le}
use Rattle.std.proofs.lemmas.List.Elements.{All-head, All-tail, All-push}
use Rattle.std.proofs.Math.Seq.{take-append_seam, get_or-append_seam}
use Rattle.std.specs.Char.{is_ascii_hexdigit, digit_value}
use Rattle.std.specs.Str.Parse.{digits_value, digits_value_after}
use Rattle.httparse.specs.Ascii.{crlf_bytes}
use Rattle.httparse.specs.Grammar.{AllPass, ChunkLine, IsChunkLine, print_chunk_line, chunk_size, HasNoChunkLine, crlf, print_end, print_extension, print_section}
use Rattle.httparse.specs.Pieces.{Stops}
use Rattle.httparse.specs.Spans.{IsChunkLineAt}
use Rattle.httparse.proofs.ChunkLemmas.{chunk_pieces, chunk_line_unique, ReadsChunkLine-append}
use Rattle.http_relay_body.specs.declared.chunks.part.Part.{Part}
use Rattle.http_relay_body.specs.declared.chunks.part.Part.TheVariants.{SizeLine, DataEnd, Trailer}
use Rattle.http_relay_body.specs.declared.chunks.part.Sight.TheVariants.{Short}
use Rattle.http_relay_body.specs.Moves.{Begins, NeverBegins}
use Rattle.http_relay_body.specs.Parts.{IsSizeText, IsTrailerText, IsPartText, least_from, least_behind, least_behind_size}
use Rattle.http_relay_body.specs.Rooms.{MustFollow, Sees}
use Rattle.http_relay_body.proofs.Lines.{split_same, none_size, nothing_size, none_trailer, nothing_section}
use Rattle.http_relay_body.proofs.Parts.{short_end}

-- ---- before a part

-- no part is nothing
pub nothing_part : (part : Part) → ¬ Begins (IsPartText part) []
nothing_part SizeLine = none_size [] nothing_size
nothing_part DataEnd = short_end [] (omega arith)
nothing_part Trailer = none_trailer [] nothing_section

-- a size line has three bytes
pub three_size : (line : ChunkLine) → IsChunkLine line → 3 ≤ length (print_chunk_line line)
unfolding print_chunk_line
three_size line form =
    let front = line.digits ++ line.pad ++ print_extension line.extension in
    let sizes : length (print_chunk_line line) ≡ length front + 2 = length-append front (print_end crlf) in
    let fronts : length front ≡ length (line.digits ++ line.pad) + length (print_extension line.extension) = length-append (line.digits ++ line.pad) (print_extension line.extension) in
    omega (arith, sizes, fronts, length-append line.digits line.pad, form.digits.0)

behind_some : (size : ℕ) → 1 ≤ least_behind_size size
behind_some zero = omega arith
behind_some (suc size) = omega arith

some_part : {A : Type 0} (value : A) (text : List ℕ) → IsTrailerText value text → 1 ≤ length text
some_part value [] (fields, end, ok, is) = absurd (nothing_section fields end [] (ok.form, is ∙ sym (append-nil (print_section fields end))))
some_part value (x ∷ text) trailer = omega arith

-- as many bytes stand from the beginning of a part to the body's end
pub from_part : (part : Part) → MustFollow part [] (least_from part)
from_part SizeLine size rest (line, ok, tells, is) =
    omega (arith, ap length is, three_size line ok.form, behind_some size)
from_part DataEnd value rest is = omega (arith, ap length is)
from_part Trailer value rest trailer = omega (arith, some_part value rest trailer)

-- ---- behind a part

-- A part was seen that didn't stand in the first bytes of the text, behind which no more bytes stand than must follow: behind the part
-- stand no more than must follow it.
pub leaves : (part : Part) (text : List ℕ) (seen least len value : ℕ) → seen ≤ length text → ¬ Begins (IsPartText part) (take seen text)
    → MustFollow part (take seen text) least → length text ≤ seen + least → len ≤ length text → IsPartText part value (take len text)
    → length (drop len text) ≤ least_behind part value
leaves part text seen least len value within none must few fits is =
    elim (cases_lt seen len) [
      | inl longer ↦
          (let front : take seen (take len text) ≡ take seen text = take-take seen len text (omega (arith, longer)) in
          let rest = drop seen (take len text) in
          let joined : take len text ≡ take seen text ++ rest = sym (take-append-drop seen (take len text)) ∙ ap (λ xs. xs ++ rest) front in
          let follows = must value rest (subst (λ xs. IsPartText part value xs) joined is) in
          omega (arith, follows, few, length-drop seen (take len text), length-take-le len text fits, length-drop len text, longer, fits))
      | inr shorter ↦
          (let front : take len (take seen text) ≡ take len text = take-take len seen text (omega (arith, shorter)) in
          absurd (none (
            value,
            take len text,
            drop len (take seen text),
            is,
            sym (take-append-drop len (take seen text)) ∙ ap (λ xs. xs ++ drop len (take seen text)) front,
          )))
    ]

-- nothing of a part is in the first bytes of a text that has grown
pub seen_front : (old new more : List ℕ) → new ≡ old ++ more → take (length old) new ≡ old
seen_front old new more is = ap (take (length old)) is ∙ take-append_seam old more

-- ---- size lines

-- the size line that was found
pub found_size : (text : List ℕ) (len size : ℕ) (line : ChunkLine) → IsChunkLineAt text len size line → len ≤ 256
    → (len ≤ length text) × IsSizeText size (take len text)
found_size text len size line at short =
    let sizes = ap length at.reads.1 ∙ length-append (print_chunk_line line) (drop len text) in
    let is : take len text ≡ print_chunk_line line =
    ap (λ n. take n text) at.len_is ∙ ap (take (length (print_chunk_line line))) at.reads.1 ∙ take-append_seam (print_chunk_line line) (drop len text) in
    (omega (arith, sizes, at.len_is), (line, record { form = at.reads.0; short = omega (arith, at.len_is, short) }, sym at.size_is, is))

-- a longer one than may be stands there
pub long_size : (text : List ℕ) (len size : ℕ) (line : ChunkLine) → IsChunkLineAt text len size line → 256 < len → NeverBegins IsSizeText text
long_size text len size line at long more (other_size, front, rest, (other, ok, tells, is), parted) =
    let same = chunk_line_unique (text ++ more) line other (drop len text ++ more) rest
    (ReadsChunkLine-append text line (drop len text) more at.reads) (ok.form, parted ∙ ap (λ xs. xs ++ rest) is) in
    absurd (omega (arith, long, at.len_is, ok.short, ap (λ (l : ChunkLine). length (print_chunk_line l)) same.0))

-- digits at the front of a longer run of digits
digits_front : (ds more digits mid : List ℕ) → AllPass is_ascii_hexdigit ds → Stops is_ascii_hexdigit mid → ds ++ more ≡ digits ++ mid
    → (behind : List ℕ) × (digits ≡ ds ++ behind)
digits_front [] more digits mid pass stops e = (digits, refl)
digits_front (d ∷ ds) more [] [] pass stops e = absurd stops
digits_front (d ∷ ds) more [] (m ∷ mid) pass stops e =
    let passes = All-head (λ v. is_ascii_hexdigit v ≡ true) d ds pass in absurd (cc)
digits_front (d ∷ ds) more (g ∷ digits) mid pass stops e =
    let rest = digits_front ds more digits mid (All-tail (λ v. is_ascii_hexdigit v ≡ true) d ds pass) stops (cc) in
    (rest.0, cc)

value_append : (n : ℕ) (ds es : List ℕ) → digits_value_after 16 n (ds ++ es) ≡ digits_value_after 16 (digits_value_after 16 n ds) es
value_append n [] es = refl
value_append n (d ∷ ds) es = value_append (n * 16 + digit_value d) ds es

value_grows : (n : ℕ) (es : List ℕ) → n ≤ digits_value_after 16 n es
value_grows n [] = le_refl n
value_grows n (e ∷ es) =
    let step : n ≤ n * 16 + digit_value e = omega arith in
    le_trans step (value_grows (n * 16 + digit_value e) es)

-- one digit more
pub value_push : (ds : List ℕ) (d : ℕ) → digits_value 16 (ds ++ d ∷ []) ≡ digits_value 16 ds * 16 + digit_value d
value_push ds d = value_append 0 ds (d ∷ [])

-- a line that begins with these digits tells at least as much as they do
pub digits_least : (text ds behind : List ℕ) → AllPass is_ascii_hexdigit ds → text ≡ ds ++ behind
    → (size : ℕ) (rest : List ℕ) → IsSizeText size (text ++ rest) → digits_value 16 ds ≤ size
digits_least text ds behind pass parted size rest (line, ok, tells, is) =
    let pieces = chunk_pieces (text ++ rest) line [] (ok.form, is ∙ sym (append-nil (print_chunk_line line))) in
    let run = pieces.1.0 in
    let front = digits_front ds (behind ++ rest) line.digits pieces.0 pass run.2
    (sym (append_assoc ds behind rest) ∙ ap (λ xs. xs ++ rest) (sym parted) ∙ run.1) in
    let whole : chunk_size line ≡ digits_value_after 16 (digits_value 16 ds) front.0 = ap (digits_value 16) front.1 ∙ value_append 0 ds front.0 in
    omega (arith, tells, whole, value_grows (digits_value 16 ds) front.0)

-- the digits so far
pub told_least : (text : List ℕ) (i n : ℕ) → AllPass is_ascii_hexdigit (take i text) → n ≡ digits_value 16 (take i text)
    → (size : ℕ) (rest : List ℕ) → IsSizeText size (text ++ rest) → n ≤ size
told_least text i n pass told size rest is =
    omega (arith, told, digits_least text (take i text) (drop i text) pass (sym (take-append-drop i text)) size rest is)

pub digit_pushed : (text : List ℕ) (i size digit byte : ℕ) → take (i + 1) text ≡ take i text ++ byte ∷ [] → AllPass is_ascii_hexdigit (take i text)
    → size ≡ digits_value 16 (take i text) → is_ascii_hexdigit byte ≡ true → digit ≡ digit_value byte
    → AllPass is_ascii_hexdigit (take (i + 1) text) × (size * 16 + digit ≡ digits_value 16 (take (i + 1) text))
digit_pushed text i size digit byte grown pass told hex value = (
  subst (AllPass is_ascii_hexdigit) (sym grown) (All-push (λ v. is_ascii_hexdigit v ≡ true) (take i text) byte pass hex),
  ap (λ n. n * 16 + digit) told ∙ ap (λ d. digits_value 16 (take i text) * 16 + d) value ∙ sym (value_push (take i text) byte) ∙ ap (digits_value 16) (sym grown),
)

pub behind_grows : (a b : ℕ) → a ≤ b → least_behind_size a ≤ least_behind_size b
behind_grows zero zero le = omega arith
behind_grows zero (suc b) le = omega arith
behind_grows (suc a) zero le = omega (arith, le)
behind_grows (suc a) (suc b) le = omega (arith, le)

-- the last two bytes of a size line
line_ends : (line : ChunkLine) → (front : List ℕ) × (print_chunk_line line ≡ (front ++ 13 ∷ []) ++ 10 ∷ [])
unfolding print_chunk_line
line_ends line =
    let front = line.digits ++ line.pad ++ print_extension line.extension in
    (front, sym (append_assoc front (13 ∷ []) (10 ∷ [])))

last_of : (front : List ℕ) (byte : ℕ) → get_or (front ++ byte ∷ []) (length (front ++ byte ∷ []) - 1) 0 ≡ byte
last_of front byte =
    let sizes = length-append front (byte ∷ []) in
    let at : length (front ++ byte ∷ []) - 1 ≡ length front = omega (arith, sizes) in
    ap (λ i. get_or (front ++ byte ∷ []) i 0) at ∙ get_or-append_seam front byte [] 0

-- how much of the line itself must come: one byte, and two where no carriage return stands last
pub line_rest : (text rest : List ℕ) (line : ChunkLine) → IsChunkLine line → HasNoChunkLine text → text ++ rest ≡ print_chunk_line line
    → (end : ℕ) → (end ≤ 1) ⊎ ((end ≤ 2) × (get_or text (length text - 1) 0 ≢ 13)) → end ≤ length rest
line_rest text [] line form none is end few = absurd (none line [] (form, sym (append-nil text) ∙ is ∙ sym (append-nil (print_chunk_line line))))
line_rest text (x ∷ []) line form none is end (inl one) = omega (arith, one)
line_rest text (x ∷ []) line form none is end (inr two) =
    let (front, ends) = line_ends line in
    let same = is ∙ ends in
    let sizes = sym (length-append text (x ∷ [])) ∙ ap length same ∙ length-append (front ++ 13 ∷ []) (10 ∷ []) in
    let text_is : text ≡ front ++ 13 ∷ [] = (split_same text (front ++ 13 ∷ []) (x ∷ []) (10 ∷ []) (omega (arith, sizes)) same).0 in
    absurd (two.1 (ap (λ xs. get_or xs (length xs - 1) 0) text_is ∙ last_of front 13))
line_rest text (x ∷ y ∷ rest) line form none is end (inl one) = omega (arith, one)
line_rest text (x ∷ y ∷ rest) line form none is end (inr two) = omega (arith, two.0)

-- ---- line ends

-- the two bytes stand at the front
pub found_end : (text : List ℕ) → 2 ≤ length text → get_or text 0 0 ≡ 13 → get_or text 1 0 ≡ 10 → take 2 text ≡ 13 ∷ 10 ∷ []
found_end [] room first second = absurd (omega (arith, room))
found_end (x ∷ []) room first second = absurd (omega (arith, room))
found_end (x ∷ y ∷ text) room first second = cc

pub other_first_byte : (text : List ℕ) → 1 ≤ length text → get_or text 0 0 ≢ 13 → NeverBegins (IsPartText DataEnd) text
other_first_byte [] some other more begins = absurd (omega (arith, some))
other_first_byte (x ∷ text) some other more (value, front, rest, is, parted) =
    other (ap (λ xs. get_or xs 0 0) (parted ∙ ap (λ xs. xs ++ rest) is))

pub other_second_byte : (text : List ℕ) → 2 ≤ length text → get_or text 1 0 ≢ 10 → NeverBegins (IsPartText DataEnd) text
other_second_byte [] some other more begins = absurd (omega (arith, some))
other_second_byte (x ∷ []) some other more begins = absurd (omega (arith, some))
other_second_byte (x ∷ y ∷ text) some other more (value, front, rest, is, parted) =
    other (ap (λ xs. get_or xs 1 0) (parted ∙ ap (λ xs. xs ++ rest) is))

-- what must follow one byte of a line end
end_must : (text : List ℕ) → length text ≡ 1 → MustFollow DataEnd text 5
end_must text one value rest is = omega (arith, one, ap length is, length-append text rest)

-- nothing of a line end came
pub end_unbegun : (text : List ℕ) → length text ≡ 0 → Sees DataEnd text (Short 6)
end_unbegun [] none = (short_end [] (omega arith), omega arith, omega arith, from_part DataEnd, (0, crlf_bytes, refl))
end_unbegun (x ∷ text) none = absurd (omega (arith, none))

-- one byte of a line end came
pub end_begun : (text : List ℕ) → length text ≡ 1 → get_or text 0 0 ≡ 13 → Sees DataEnd text (Short 5)
end_begun [] one first = absurd (omega (arith, one))
end_begun (x ∷ []) one first =
    (short_end (x ∷ []) (omega arith), omega arith, omega arith, end_must (x ∷ []) refl, (0, 10 ∷ [], ap (λ b. b ∷ 10 ∷ []) first))
end_begun (x ∷ y ∷ text) one first = absurd (omega (arith, one))
