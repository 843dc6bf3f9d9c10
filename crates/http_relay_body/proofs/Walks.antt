-- Trailers that are walked through: what a byte leads to, and what is seen where the walk stands.
use Rattle.std.proofs.Common.{◌≡◌, ◌≢◌, ◌⊎◌, ◌↔◌, inl, inr, ℕ, suc, ◌+◌, ◌<◌, ◌≤◌, Bool, true, false, List, [], ◌∷◌, ◌++◌, length, length-append, take, drop, get_or, refl, ap, sym, ◌∙◌, subst, arith, append_assoc, append-nil, take-append-drop}
use Rattle.std.proofs.lemmas.Bool.{false≢true}
use Rattle.std.proofs.lemmas.List.{take_more, take_all, length-take-le, take-append-le}
use Rattle.std.proofs.lemmas.List.Elements.{All-nil, All-cons, All-head, All-tail}
use Rattle.std.specs.List.{flat_map}
use Rattle.httparse.specs.Grammar.{is_token_byte, is_value_byte, IsToken, Field, IsField, LineEnd, crlf, lf, print_end, print_field, print_section}
use Rattle.httparse.proofs.GrammarLemmas.{section_unique}
use Rattle.httparse.proofs.PieceLemmas.{colon_ends_token}
use Rattle.http_relay_body.specs.declared.chunks.part.Part.TheVariants.{Trailer}
use Rattle.http_relay_body.specs.declared.chunks.part.Sight.TheVariants.{Whole, Short}
use Rattle.http_relay_body.specs.declared.chunks.part.trailer.Place.{Place}
use Rattle.http_relay_body.specs.declared.chunks.part.trailer.Place.TheVariants.{Start, Name, Value, FieldEnd, LastEnd}
use Rattle.http_relay_body.specs.declared.chunks.part.trailer.Step.{Step}
use Rattle.http_relay_body.specs.declared.chunks.part.trailer.Step.TheVariants.{On, End, Never}
use Rattle.http_relay_body.specs.declared.chunks.part.trailer.Walk.{Walk}
use Rattle.http_relay_body.specs.Moves.{NeverBegins}
use Rattle.http_relay_body.specs.Parts.{IsPartText}
use Rattle.http_relay_body.specs.Rooms.{Sees}
use Rattle.http_relay_body.specs.Trailers.{IsSection, IsFieldEndRest, IsValueRest, IsNameRest, IsRest, IsBehind, IsShortest, Stands, Walked, fields_ended}
use Rattle.http_relay_body.proofs.Cuts.{split}

-- ---- sections

-- a field and what stands behind it
field_and : (field : Field) (behind : List ℕ) → print_field field ++ behind ≡ field.name ++ 58 ∷ (field.raw ++ (print_end field.end ++ behind))
field_and field behind =
    ap (λ xs. xs ++ behind) (append_assoc field.name (58 ∷ field.raw) (print_end field.end))
    ∙ append_assoc field.name (58 ∷ (field.raw ++ print_end field.end)) behind
    ∙ ap (λ xs. field.name ++ 58 ∷ xs) (append_assoc field.raw (print_end field.end) behind)

section_and : (field : Field) (fields : List Field) (end : LineEnd)
    → print_section (field ∷ fields) end ≡ field.name ++ 58 ∷ (field.raw ++ (print_end field.end ++ print_section fields end))
section_and field fields end =
    append_assoc (print_field field) (flat_map print_field fields) (print_end end) ∙ field_and field (print_section fields end)

-- a name before what stands behind it makes a section
section_from : (count : ℕ) (name behind : List ℕ) → IsToken name → IsValueRest count behind → IsSection count (name ++ 58 ∷ behind)
section_from count name behind token (raw, end, rest, others, pass, (fields, last, all, many, is), one, text) =
    let field : Field = record { name = name; raw = raw; end = end } in (
      field ∷ fields,
      last,
      All-cons IsField field fields (record { name = token; raw = pass }) all,
      omega (arith, many, one),
      ap (λ xs. name ++ 58 ∷ xs) (text ∙ ap (λ xs. raw ++ (print_end end ++ xs)) is) ∙ sym (section_and field fields last),
    )

-- the empty line alone, or a name before what stands behind it
abbrev FirstLine : ℕ → List ℕ → Type 0
FirstLine count text =
    ((end : LineEnd) × (count ≡ 0) × (text ≡ print_end end))
    ⊎ ((name : List ℕ) × (behind : List ℕ) × IsToken name × IsValueRest count behind × (text ≡ name ++ 58 ∷ behind))

first_line : (count : ℕ) (text : List ℕ) → IsSection count text → FirstLine count text
first_line count text ([], end, all, many, is) = inl (end, sym many, is)
first_line count text (field ∷ fields, end, all, many, is) =
    let good = All-head IsField field fields all in
    let section : IsSection (length fields) (print_section fields end) = (fields, end, All-tail IsField field fields all, refl, refl) in
    let value : IsValueRest count (field.raw ++ (print_end field.end ++ print_section fields end)) =
    (field.raw, field.end, print_section fields end, length fields, good.raw, section, omega (arith, many), refl) in
    inr (field.name, field.raw ++ (print_end field.end ++ print_section fields end), good.name, value, is ∙ section_and field fields end)

some_end : (end : LineEnd) → 1 ≤ length (print_end end)
some_end crlf = omega arith
some_end lf = omega arith

some_section : (count : ℕ) (text : List ℕ) → IsSection count text → 1 ≤ length text
some_section count text (fields, end, all, many, is) =
    omega (arith, ap length is, length-append (flat_map print_field fields) (print_end end), some_end end)

-- an empty line
no_fields : IsSection 0 (10 ∷ [])
no_fields = ([], lf, All-nil IsField, refl, refl)

-- ---- bytes

-- this byte leads there
abbrev pub Leads : Place → ℕ → Step → Type 0
Leads place byte step = (count : ℕ) (rest : List ℕ) → IsRest place count (byte ∷ rest) ↔ IsBehind step count rest

first_byte : (x y : ℕ) (xs ys : List ℕ) → x ∷ xs ≡ y ∷ ys → x ≡ y
first_byte x y xs ys e = ap (λ l. get_or l 0 0) e

other_bytes : (x y : ℕ) (xs ys : List ℕ) → x ∷ xs ≡ y ∷ ys → xs ≡ ys
other_bytes x y xs ys e = ap (drop 1) e

-- a byte that passes isn't one that doesn't
fails : (test : ℕ → Bool) (byte other : ℕ) → test other ≡ false → byte ≡ other → test byte ≡ true → ⊥
fails test byte other none is passes = false≢true (sym none ∙ ap test (sym is) ∙ passes)

feed_ends_token : is_token_byte 10 ≡ false
unfolding is_token_byte
feed_ends_token = refl

return_ends_token : is_token_byte 13 ≡ false
unfolding is_token_byte
return_ends_token = refl

-- ---- at the beginning of a line

-- the rest of a name that begins a line
token_rest : (count byte : ℕ) (rest name behind : List ℕ) → IsToken name → IsValueRest count behind → byte ∷ rest ≡ name ++ 58 ∷ behind
    → (is_token_byte byte ≡ true) × IsNameRest count rest
token_rest count byte rest [] behind token value is = absurd (omega (arith, token.0))
token_rest count byte rest (x ∷ name) behind token value is = (
  ap is_token_byte (first_byte byte x rest (name ++ 58 ∷ behind) is) ∙ All-head (λ b. is_token_byte b ≡ true) x name token.1,
  (name, behind, All-tail (λ b. is_token_byte b ≡ true) x name token.1, value, other_bytes byte x rest (name ++ 58 ∷ behind) is),
)

-- a line begins with CR LF or LF, which end the section, or with a name
abbrev StartCases : ℕ → ℕ → List ℕ → Type 0
StartCases count byte rest =
    ((byte ≡ 13) × (count ≡ 0) × (rest ≡ 10 ∷ [])) ⊎ (((byte ≡ 10) × (count ≡ 0) × (rest ≡ [])) ⊎ ((is_token_byte byte ≡ true) × IsNameRest count rest))

empty_line : (count byte : ℕ) (rest : List ℕ) (end : LineEnd) → count ≡ 0 → byte ∷ rest ≡ print_end end → StartCases count byte rest
empty_line count byte rest crlf none is = inl (first_byte byte 13 rest (10 ∷ []) is, none, other_bytes byte 13 rest (10 ∷ []) is)
empty_line count byte rest lf none is = inr (inl (first_byte byte 10 rest [] is, none, other_bytes byte 10 rest [] is))

start_cases : (count byte : ℕ) (rest : List ℕ) → IsSection count (byte ∷ rest) → StartCases count byte rest
start_cases count byte rest section =
    elim (first_line count (byte ∷ rest) section) [
      | inl z ↦ empty_line count byte rest z.0 z.1 z.2
      | inr z ↦ inr (inr (token_rest count byte rest z.0 z.1 z.2 z.3 z.4))
    ]

pub start_return : (byte : ℕ) → byte ≡ 13 → Leads Start byte (On LastEnd)
start_return byte here count rest = (
  (λ section. elim (start_cases count byte rest section) [
    | inl z ↦ (0, omega (arith, z.1), (refl, z.2))
    | inr (inl z) ↦ absurd (omega (arith, here, z.0))
    | inr (inr z) ↦ absurd (fails is_token_byte byte 13 return_ends_token here z.0)
  ]),
  (λ x. ([], crlf, All-nil IsField, omega (arith, x.1, x.2.0), ap (λ b. b ∷ rest) here ∙ ap (λ xs. 13 ∷ xs) x.2.1)),
)

pub start_feed : (byte : ℕ) → byte ≡ 10 → Leads Start byte End
start_feed byte here count rest = (
  (λ section. elim (start_cases count byte rest section) [
    | inl z ↦ absurd (omega (arith, here, z.0))
    | inr (inl z) ↦ (z.1, z.2)
    | inr (inr z) ↦ absurd (fails is_token_byte byte 10 feed_ends_token here z.0)
  ]),
  (λ x. ([], lf, All-nil IsField, sym x.0, ap (λ b. b ∷ rest) here ∙ ap (λ xs. 10 ∷ xs) x.1)),
)

pub start_token : (byte : ℕ) → is_token_byte byte ≡ true → Leads Start byte (On Name)
start_token byte here count rest = (
  (λ section. elim (start_cases count byte rest section) [
    | inl z ↦ absurd (fails is_token_byte byte 13 return_ends_token z.0 here)
    | inr (inl z) ↦ absurd (fails is_token_byte byte 10 feed_ends_token z.0 here)
    | inr (inr z) ↦ (count, omega arith, z.1)
  ]),
  (λ (others, same, (name, behind, pass, value, is)).
      let count_is : others ≡ count = omega (arith, same) in
      let token : IsToken (byte ∷ name) = (omega arith, All-cons (λ b. is_token_byte b ≡ true) byte name here pass) in
      subst (λ n. IsSection n (byte ∷ rest)) count_is
      (subst (IsSection others) (sym (ap (λ xs. byte ∷ xs) is)) (section_from others (byte ∷ name) behind token value))),
)

pub start_never : (byte : ℕ) → byte ≢ 13 → byte ≢ 10 → is_token_byte byte ≡ false → Leads Start byte Never
start_never byte return feed token count rest = (
  (λ section. elim (start_cases count byte rest section) [
    | inl z ↦ return z.0
    | inr (inl z) ↦ feed z.0
    | inr (inr z) ↦ false≢true (sym token ∙ z.0)
  ]),
  (λ x. absurd x),
)

-- ---- in a name

name_cases : (count byte : ℕ) (rest : List ℕ) → IsNameRest count (byte ∷ rest)
    → ((byte ≡ 58) × IsValueRest count rest) ⊎ ((is_token_byte byte ≡ true) × IsNameRest count rest)
name_cases count byte rest ([], behind, pass, value, is) =
    inl (first_byte byte 58 rest behind is, subst (IsValueRest count) (sym (other_bytes byte 58 rest behind is)) value)
name_cases count byte rest (x ∷ name, behind, pass, value, is) = inr (
  ap is_token_byte (first_byte byte x rest (name ++ 58 ∷ behind) is) ∙ All-head (λ b. is_token_byte b ≡ true) x name pass,
  (name, behind, All-tail (λ b. is_token_byte b ≡ true) x name pass, value, other_bytes byte x rest (name ++ 58 ∷ behind) is),
)

pub name_colon : (byte : ℕ) → byte ≡ 58 → Leads Name byte (On Value)
name_colon byte here count rest = (
  (λ name. elim (name_cases count byte rest name) [
    | inl z ↦ (count, omega arith, z.1)
    | inr z ↦ absurd (fails is_token_byte byte 58 colon_ends_token here z.0)
  ]),
  (λ (others, same, value).
      let count_is : others ≡ count = omega (arith, same) in
      ([], rest, All-nil _, subst (λ n. IsValueRest n rest) count_is value, ap (λ b. b ∷ rest) here)),
)

pub name_token : (byte : ℕ) → is_token_byte byte ≡ true → Leads Name byte (On Name)
name_token byte here count rest = (
  (λ name. elim (name_cases count byte rest name) [
    | inl z ↦ absurd (fails is_token_byte byte 58 colon_ends_token z.0 here)
    | inr z ↦ (count, omega arith, z.1)
  ]),
  (λ (others, same, (name, behind, pass, value, is)).
      let count_is : others ≡ count = omega (arith, same) in (
        byte ∷ name,
        behind,
        All-cons (λ b. is_token_byte b ≡ true) byte name here pass,
        subst (λ n. IsValueRest n behind) count_is value,
        ap (λ xs. byte ∷ xs) is,
      )),
)

pub name_never : (byte : ℕ) → byte ≢ 58 → is_token_byte byte ≡ false → Leads Name byte Never
name_never byte colon token count rest = (
  (λ name. elim (name_cases count byte rest name) [
    | inl z ↦ colon z.0
    | inr z ↦ false≢true (sym token ∙ z.0)
  ]),
  (λ x. absurd x),
)

-- ---- behind the colon

-- a value ends with CR LF or with LF, or goes on
abbrev ValueCases : ℕ → ℕ → List ℕ → Type 0
ValueCases count byte rest =
    ((byte ≡ 13) × IsFieldEndRest count rest)
    ⊎ (((byte ≡ 10) × IsBehind (On Start) count rest) ⊎ ((is_value_byte byte ≡ true) × IsValueRest count rest))

value_end : (count byte others : ℕ) (rest behind : List ℕ) (end : LineEnd) → IsSection others behind → count ≡ suc others → byte ∷ rest ≡ print_end end ++ behind
    → ValueCases count byte rest
value_end count byte others rest behind crlf section one is =
    inl (first_byte byte 13 rest (10 ∷ behind) is, (behind, others, section, one, other_bytes byte 13 rest (10 ∷ behind) is))
value_end count byte others rest behind lf section one is =
    inr (inl (first_byte byte 10 rest behind is, (others, omega (arith, one), subst (IsSection others) (sym (other_bytes byte 10 rest behind is)) section)))

value_cases : (count byte : ℕ) (rest : List ℕ) → IsValueRest count (byte ∷ rest) → ValueCases count byte rest
value_cases count byte rest ([], end, behind, others, pass, section, one, is) = value_end count byte others rest behind end section one is
value_cases count byte rest (x ∷ raw, end, behind, others, pass, section, one, is) =
    let tail = raw ++ (print_end end ++ behind) in
    inr (inr (
      ap is_value_byte (first_byte byte x rest tail is) ∙ All-head (λ b. is_value_byte b ≡ true) x raw pass,
      (raw, end, behind, others, All-tail (λ b. is_value_byte b ≡ true) x raw pass, section, one, other_bytes byte x rest tail is),
    ))

pub value_return : (byte : ℕ) → byte ≡ 13 → Leads Value byte (On FieldEnd)
value_return byte here count rest = (
  (λ value. elim (value_cases count byte rest value) [
    | inl z ↦ (count, omega arith, z.1)
    | inr (inl z) ↦ absurd (omega (arith, here, z.0))
    | inr (inr z) ↦ absurd (fails is_value_byte byte 13 refl here z.0)
  ]),
  (λ (others, same, (behind, less, section, one, is)).
      ([], crlf, behind, less, All-nil _, section, omega (arith, same, one), ap (λ b. b ∷ rest) here ∙ ap (λ xs. 13 ∷ xs) is)),
)

pub value_feed : (byte : ℕ) → byte ≡ 10 → Leads Value byte (On Start)
value_feed byte here count rest = (
  (λ value. elim (value_cases count byte rest value) [
    | inl z ↦ absurd (omega (arith, here, z.0))
    | inr (inl z) ↦ z.1
    | inr (inr z) ↦ absurd (fails is_value_byte byte 10 refl here z.0)
  ]),
  (λ x. ([], lf, rest, x.0, All-nil _, x.2, omega (arith, x.1), ap (λ b. b ∷ rest) here)),
)

pub value_more : (byte : ℕ) → is_value_byte byte ≡ true → Leads Value byte (On Value)
value_more byte here count rest = (
  (λ value. elim (value_cases count byte rest value) [
    | inl z ↦ absurd (fails is_value_byte byte 13 refl z.0 here)
    | inr (inl z) ↦ absurd (fails is_value_byte byte 10 refl z.0 here)
    | inr (inr z) ↦ (count, omega arith, z.1)
  ]),
  (λ (others, same, (raw, end, behind, less, pass, section, one, is)). (
    byte ∷ raw,
    end,
    behind,
    less,
    All-cons (λ b. is_value_byte b ≡ true) byte raw here pass,
    section,
    omega (arith, same, one),
    ap (λ xs. byte ∷ xs) is,
  )),
)

pub value_never : (byte : ℕ) → byte ≢ 13 → byte ≢ 10 → is_value_byte byte ≡ false → Leads Value byte Never
value_never byte return feed none count rest = (
  (λ value. elim (value_cases count byte rest value) [
    | inl z ↦ return z.0
    | inr (inl z) ↦ feed z.0
    | inr (inr z) ↦ false≢true (sym none ∙ z.0)
  ]),
  (λ x. absurd x),
)

-- ---- in a line end

pub field_feed : (byte : ℕ) → byte ≡ 10 → Leads FieldEnd byte (On Start)
field_feed byte here count rest = (
  (λ (behind, others, section, one, is).
      (others, omega (arith, one), subst (IsSection others) (sym (other_bytes byte 10 rest behind is)) section)),
  (λ x. (rest, x.0, x.2, omega (arith, x.1), ap (λ b. b ∷ rest) here)),
)

pub field_never : (byte : ℕ) → byte ≢ 10 → Leads FieldEnd byte Never
field_never byte other count rest = ((λ (behind, others, section, one, is). other (first_byte byte 10 rest behind is)), (λ x. absurd x))

pub last_feed : (byte : ℕ) → byte ≡ 10 → Leads LastEnd byte End
last_feed byte here count rest = ((λ x. (x.0, other_bytes byte 10 rest [] x.1)), (λ x. (x.0, ap (λ b. b ∷ rest) here ∙ ap (λ xs. 10 ∷ xs) x.1)))

pub last_never : (byte : ℕ) → byte ≢ 10 → Leads LastEnd byte Never
last_never byte other count rest = ((λ x. other (first_byte byte 10 rest [] x.1)), (λ x. absurd x))

-- ---- the shortest rests

pub shortest_start : IsShortest Start 1 0
shortest_start = record { enough = (10 ∷ [], no_fields, refl); least = λ count rest x. (some_section count rest x, omega arith) }

pub shortest_last : IsShortest LastEnd 1 0
shortest_last = record { enough = (10 ∷ [], (refl, refl), refl); least = λ count rest x. (omega (arith, ap length x.1), omega arith) }

pub shortest_field : IsShortest FieldEnd 2 1
shortest_field = record {
  enough = (10 ∷ 10 ∷ [], (10 ∷ [], 0, no_fields, refl, refl), refl);
  least = λ count rest (behind, others, section, one, is). (omega (arith, ap length is, some_section others behind section), omega (arith, one));
}

-- the shortest rest of a value
value_ends : IsValueRest 1 (10 ∷ 10 ∷ [])
value_ends = ([], lf, 10 ∷ [], 0, All-nil _, no_fields, refl, refl)

pub shortest_value : IsShortest Value 2 1
shortest_value = record {
  enough = (10 ∷ 10 ∷ [], value_ends, refl);
  least = λ count rest (raw, end, behind, others, pass, section, one, is). (
    omega (arith, ap length is, length-append raw (print_end end ++ behind), length-append (print_end end) behind, some_end end, some_section others behind section),
    omega (arith, one),
  );
}

pub shortest_name : IsShortest Name 3 1
shortest_name = record {
  enough = (58 ∷ 10 ∷ 10 ∷ [], ([], 10 ∷ 10 ∷ [], All-nil _, value_ends, refl), refl);
  least = λ count rest (name, behind, pass, value, is).
      let known = shortest_value.least count behind value in
      (omega (arith, ap length is, length-append name (58 ∷ behind), known.0), known.1);
}

-- some rest
record Ending (place : Place) : Type 0 where
  bytes : ℕ
  fields : ℕ
  shortest : IsShortest place bytes fields
  some : 0 < bytes

ending : (place : Place) → Ending place
ending Start = record { bytes = 1; fields = 0; shortest = shortest_start; some = omega arith }
ending Name = record { bytes = 3; fields = 1; shortest = shortest_name; some = omega arith }
ending Value = record { bytes = 2; fields = 1; shortest = shortest_value; some = omega arith }
ending FieldEnd = record { bytes = 2; fields = 1; shortest = shortest_field; some = omega arith }
ending LastEnd = record { bytes = 1; fields = 0; shortest = shortest_last; some = omega arith }

-- ---- a walk

-- at the beginning
pub walked_nothing : (text : List ℕ) → Walked (record { bytes = 0; fields = 0; place = Start }) text
walked_nothing text = record {
  within = omega arith;
  few = omega arith;
  stands = λ count rest. (
    (λ section. (count, omega arith, section)),
    (λ (others, same, section).
        let count_is : others ≡ count = omega (arith, same) in
        subst (λ n. IsSection n rest) count_is section),
  );
}

-- a byte more
stands_on : (place next : Place) (fields byte : ℕ) (front : List ℕ) → Stands place fields front → Leads place byte (On next)
    → Stands next (fields + fields_ended next) (front ++ byte ∷ [])
stands_on place next fields byte front stands leads count rest =
    let joined = append_assoc front (byte ∷ []) rest in (
      (λ section.
          let x = (stands count (byte ∷ rest)).0 (subst (IsSection count) joined section) in
          let y = (leads x.0 rest).0 x.2 in
          (y.0, omega (arith, x.1, y.1), y.2)),
      (λ x.
          let n = fields_ended next + x.0 in
          let known = (stands count (byte ∷ rest)).1 (n, omega (arith, x.1), (leads n rest).1 (x.0, refl, x.2)) in
          subst (IsSection count) (sym joined) known),
    )

pub walked_on : (text : List ℕ) (walk : Walk) (next : Place) (ended : ℕ) → Walked walk text → walk.bytes < length text
    → Leads walk.place (get_or text walk.bytes 0) (On next) → ended ≡ fields_ended next → ended ≤ 1
    → Walked (record { bytes = walk.bytes + 1; fields = walk.fields + ended; place = next }) text
walked_on text walk next ended walked more leads ended_is few = record {
  within = omega (arith, more);
  few = omega (arith, walked.few, few);
  stands = subst (Stands next (walk.fields + ended)) (sym (take_more text walk.bytes 0 more))
      (subst (λ n. Stands next (walk.fields + n) (take walk.bytes text ++ get_or text walk.bytes 0 ∷ [])) (sym ended_is)
      (stands_on walk.place next walk.fields (get_or text walk.bytes 0) (take walk.bytes text) walked.stands leads));
}

-- through the whole text
pub walked_through : (text : List ℕ) (walk : Walk) → Walked walk text → length text ≤ walk.bytes → Stands walk.place walk.fields text
walked_through text walk walked all = subst (Stands walk.place walk.fields) (take_all walk.bytes text all) walked.stands

-- at the end of a section
pub walked_whole : (text : List ℕ) (walk : Walk) → Walked walk text → walk.bytes < length text → Leads walk.place (get_or text walk.bytes 0) End
    → IsSection walk.fields (take (walk.bytes + 1) text)
walked_whole text walk walked more leads =
    let byte = get_or text walk.bytes 0 in
    let ends = (leads 0 []).1 (refl, refl) in
    subst (IsSection walk.fields) (sym (take_more text walk.bytes 0 more))
    ((walked.stands walk.fields (byte ∷ [])).1 (0, omega arith, ends))

-- bytes behind a front that was walked through
pub walked_longer : (old new more : List ℕ) (walk : Walk) → new ≡ old ++ more → Walked walk old → Walked walk new
walked_longer old new more walk is walked = record {
  within = omega (arith, walked.within, ap length is, length-append old more);
  few = walked.few;
  stands = subst (Stands walk.place walk.fields) (sym (take-append-le walk.bytes old more walked.within) ∙ ap (take walk.bytes) (sym is)) walked.stands;
}

-- ---- what is seen

-- no section stands in a text that ends at a place
none_in : (place : Place) (fields count : ℕ) (text whole rest : List ℕ) → Stands place fields text → IsSection count whole → text ≡ whole ++ rest → ⊥
none_in place fields count text whole rest stands (all, last, good, many, is) parted =
    let end = ending place in
    let (behind, ends, size) = end.shortest.enough in
    let (others, end_line, fine, as_many, section) = (stands (fields + end.fields) behind).1 (end.fields, refl, ends) in
    let same = section_unique (text ++ behind) others all end_line last [] (rest ++ behind)
    (fine, section ∙ sym (append-nil (print_section others end_line)))
    (good, ap (λ xs. xs ++ behind) (parted ∙ ap (λ xs. xs ++ rest) is) ∙ append_assoc (print_section all last) rest behind) in
    absurd (omega (arith, ap length same.2, length-append rest behind, size, end.some))

-- so a section that begins with it ends behind it
goes_behind : (place : Place) (fields count : ℕ) (text more whole rest : List ℕ) → Stands place fields text → IsSection count whole
    → text ++ more ≡ whole ++ rest
    → (s : List ℕ) × (others : ℕ) × (whole ≡ text ++ s) × (more ≡ s ++ rest) × (count ≡ fields + others) × IsRest place others s
goes_behind place fields count text more whole rest stands section parted =
    elim (split whole rest text more (sym parted)) [
      | inl z ↦
          (let known = (stands count z.0).0 (subst (IsSection count) z.1 section) in
          (z.0, known.0, z.1, z.2, known.1, known.2))
      | inr z ↦ absurd (none_in place fields count text whole z.0 stands section z.1)
    ]

-- no rest begins with a byte that leads nowhere
no_rest : (place : Place) (byte others : ℕ) (s tail rest : List ℕ) → Leads place byte Never → IsRest place others s → byte ∷ tail ≡ s ++ rest → ⊥
no_rest place byte others [] tail rest leads is parted =
    let end = ending place in
    let known = end.shortest.least others [] is in
    absurd (omega (arith, known.0, end.some))
no_rest place byte others (x ∷ s) tail rest leads is parted =
    (leads others s).0 (subst (λ b. IsRest place others (b ∷ s)) (sym (first_byte byte x tail (s ++ rest) parted)) is)

pub never_here : (text : List ℕ) (walk : Walk) → Walked walk text → walk.bytes < length text → Leads walk.place (get_or text walk.bytes 0) Never
    → NeverBegins (IsPartText Trailer) text
never_here text walk walked room leads more (value, front, rest, (all, end, ok, is), parted) =
    let i = walk.bytes in
    let byte = get_or text i 0 in
    let tail = drop (i + 1) text ++ more in
    let cut : text ≡ take i text ++ byte ∷ drop (i + 1) text =
    sym (take-append-drop (i + 1) text) ∙ ap (λ xs. xs ++ drop (i + 1) text) (take_more text i 0 room) ∙ append_assoc (take i text) (byte ∷ []) (drop (i + 1) text) in
    let whole : take i text ++ byte ∷ tail ≡ front ++ rest =
    sym (append_assoc (take i text) (byte ∷ drop (i + 1) text) more) ∙ ap (λ xs. xs ++ more) (sym cut) ∙ parted in
    let x = goes_behind walk.place walk.fields (length all) (take i text) (byte ∷ tail) front rest walked.stands (all, end, ok.form, refl, is) whole in
    no_rest walk.place byte x.1 x.0 tail rest leads x.5 x.3

-- a trailer within the limits
pub whole_seen : (text : List ℕ) (bytes fields : ℕ) → bytes ≤ length text → IsSection fields (take bytes text) → bytes ≤ 8192 → fields ≤ 100
    → Sees Trailer text (Whole bytes 0)
whole_seen text bytes fields within (all, end, good, many, is) short few = (
  within,
  (all, end, record { form = good; few = omega (arith, many, few); short = omega (arith, ap length is, length-take-le bytes text within, short) }, is),
)

-- one beyond them
pub whole_over : (text : List ℕ) (bytes fields : ℕ) → bytes ≤ length text → IsSection fields (take bytes text) → (8192 < bytes) ⊎ (100 < fields)
    → NeverBegins (IsPartText Trailer) text
whole_over text bytes fields within (all, end, good, many, is) over more (value, front, rest, (others, last, ok, front_is), parted) =
    let section = print_section all end in
    let buf : text ++ more ≡ section ++ (drop bytes text ++ more) =
    ap (λ xs. xs ++ more) (sym (take-append-drop bytes text) ∙ ap (λ xs. xs ++ drop bytes text) is) ∙ append_assoc section (drop bytes text) more in
    let same = section_unique (text ++ more) all others end last (drop bytes text ++ more) rest (good, buf) (ok.form, parted ∙ ap (λ xs. xs ++ rest) front_is) in
    let fields_same = ap length same.0 in
    let sections : section ≡ print_section others last = ap (λ fs. print_section fs end) same.0 ∙ ap (λ e. print_section others e) same.1 in
    elim over [
      | inl long ↦ absurd (omega (arith, long, ap length is, length-take-le bytes text within, ap length sections, ok.short))
      | inr many_more ↦ absurd (omega (arith, many_more, many, fields_same, ok.few))
    ]

-- how much must come behind the beginning of a trailer
pub short_seen : (place : Place) (text : List ℕ) (fields bytes more : ℕ) → Stands place fields text → IsShortest place bytes more → 0 < bytes
    → length text + bytes ≤ 8192 → fields + more ≤ 100 → Sees Trailer text (Short bytes)
short_seen place text fields bytes more stands shortest some room few =
    let (rest, ends, size) = shortest.enough in
    let (all, end, good, many, is) = (stands (fields + more) rest).1 (more, refl, ends) in (
      (λ (value, front, behind, (others, last, ok, front_is), parted).
          none_in place fields (length others) text front behind stands (others, last, ok.form, refl, front_is) parted),
      omega (arith, room, some),
      some,
      (λ value behind (others, last, ok, text_is).
          let x = (stands (length others) behind).0 (others, last, ok.form, refl, text_is) in
          let least = shortest.least x.0 behind x.2 in
          omega (arith, least.0)),
      (
        0,
        rest,
        (all, end, record { form = good; few = omega (arith, many, few); short = omega (arith, ap length is, length-append text rest, size, room) }, is),
      ),
    )

-- none can come within the limits
pub short_over : (place : Place) (text : List ℕ) (fields bytes more : ℕ) → Stands place fields text → IsShortest place bytes more
    → (8192 < length text + bytes) ⊎ (100 < fields + more) → NeverBegins (IsPartText Trailer) text
short_over place text fields bytes more stands shortest over behind (value, front, rest, (all, end, ok, is), parted) =
    let x = goes_behind place fields (length all) text behind front rest stands (all, end, ok.form, refl, is) parted in
    let least = shortest.least x.1 x.0 x.5 in
    let sizes = sym (ap length is) ∙ ap length x.2 ∙ length-append text x.0 in
    elim over [
      | inl long ↦ absurd (omega (arith, long, sizes, ok.short, least.0))
      | inr many ↦ absurd (omega (arith, many, x.4, ok.few, least.1))
    ]
