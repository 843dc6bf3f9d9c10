-- The front of a body that goes out with the head.
use Rattle.std.proofs.Common.{◌≡◌, ℕ, ◌+◌, ◌-◌, ◌<◌, ◌≤◌, true, false, List, [], ◌++◌, length, length-append, length-drop, take, drop, take-append-drop, Option, Result, Ok, Err, inl, refl, ap, sym, ◌∙◌, subst, arith, append_assoc, append-nil}
use Rattle.std.proofs.lemmas.List.{append_cancel_left, length-take-le, take_all}
use Rattle.std.proofs.Math.Seq.{take-add}
use Rattle.std.specs.Io.KnownBytes.{append_known}
use Rattle.http_relay_wire.specs.Wires.{Reading}
use Rattle.http_relay_wire.proofs.KnownBytes.{prepend_nothing}
use Rattle.http_relay_forward.specs.declared.framing.BodyKind.{BodyKind}
use Rattle.http_relay_forward.specs.declared.framing.BodyKind.TheVariants.{Empty, Length, Chunked}
use Rattle.http_relay_body.specs.declared.fault.BodyFault.{BodyFault}
use Rattle.http_relay_body.specs.declared.chunks.part.Part.{Part}
use Rattle.http_relay_body.specs.declared.chunks.part.Part.TheVariants.{DataEnd, Trailer}
use Rattle.http_relay_body.specs.Chunks.{print_chunk, IsChunked}
use Rattle.http_relay_body.specs.Moves.{Taken, Begins, NeverBegins, Moved}
use Rattle.http_relay_body.specs.Parts.{IsSizeText, IsDataText, IsChunkText, IsPartText}
use Rattle.http_relay_body.specs.Bodies.{IsBody, BeginsWithBody, IsFront, BeginsWithChunk, HasNothingWhole}
use Rattle.http_relay_body.proofs.Lines.{front_within}
use Rattle.http_relay_body.proofs.Moves.{part_later, fault_later}
use Rattle.http_relay_body.proofs.Parts.{first_part, skip_last, skip_size, join_last, join_chunk, join_data, join_chunks, skip_chunks, last_part}
use Rattle.http_relay_body.proofs.Sights.{three_size}

-- ---- so many bytes

-- all of them
pub length_all : (count : ℕ) (behind : List ℕ) → count ≤ length behind → IsFront (Length count) (take count behind) Empty
length_all count behind few rest =
    let size = length-take-le count behind few in (
      λ none. omega (arith, size, length-append (take count behind) rest, ap length none),
      λ begins. ([], rest, refl, refl),
    )

-- some of them
pub length_some : (count len : ℕ) (behind : List ℕ) → len ≤ count → len ≤ length behind → IsFront (Length count) (take len behind) (Length (count - len))
length_some count len behind few within rest =
    let size = length-take-le len behind within in (
      λ is. omega (arith, is, size, few, length-append (take len behind) rest),
      λ (body, more, is, parted).
          let front = take len behind in
          let whole : body ≡ front ++ drop (length front) body = front_within body more front rest (sym parted) (omega (arith, is, size, few)) in
          let behind_is : rest ≡ drop (length front) body ++ more =
          append_cancel_left front rest (drop (length front) body ++ more) (parted ∙ ap (λ xs. xs ++ more) whole ∙ append_assoc front (drop (length front) body) more) in
          (drop (length front) body, more, omega (arith, length-drop (length front) body, is, size), behind_is),
    )

-- ---- the rest of a slice

-- as a range tells it
abbrev pub behind : ℕ → List ℕ → List ℕ
behind n text = take (length text - n) (drop n text)

pub behind_is : (n : ℕ) (text : List ℕ) → behind n text ≡ drop n text
behind_is n text = take_all (length text - n) (drop n text) (omega (arith, length-drop n text))

pub behind_within : (n m : ℕ) (text : List ℕ) → n ≤ length text → m ≤ length (behind n text) → n + m ≤ length text
behind_within n m text front rest = omega (arith, front, rest, ap length (behind_is n text), length-drop n text)

-- ---- chunks

begins_body : (text : List ℕ) → Begins {A = Unit {0}} (λ _ part. IsChunked part) text → BeginsWithBody Chunked text
begins_body text (value, body, rest, is, parted) = (body, rest, is, parted)

begun_body : (text : List ℕ) → BeginsWithBody Chunked text → Begins {A = Unit {0}} (λ _ part. IsChunked part) text
begun_body text (body, rest, is, parted) = (tt, body, rest, is, parted)

begun_chunk : (text : List ℕ) → BeginsWithChunk text → Begins IsChunkText text
begun_chunk text (chunk, rest, good, is) = (false, print_chunk chunk, rest, (chunk, good, refl), is)

-- neither a chunk nor the last part stands there
pub nothing_whole : (n : ℕ) (text : List ℕ) → ¬ Begins IsChunkText (behind n text) → HasNothingWhole Chunked (drop n text)
nothing_whole n text none =
    let not_there : ¬ Begins IsChunkText (drop n text) = subst (λ xs. ¬ Begins IsChunkText xs) (behind_is n text) none in
    (λ begins. not_there (begun_chunk (drop n text) begins), λ begins. not_there (first_part (drop n text) (begun_body (drop n text) begins)))

-- a chunk more
pub chunk_front : (n m : ℕ) (text : List ℕ) → IsFront Chunked (take n text) Chunked → IsChunkText false (take m (behind n text)) → IsFront Chunked (take (n + m) text) Chunked
chunk_front n m text front there =
    let before = take n text in
    let more = take m (drop n text) in
    let chunk : IsChunkText false more = subst (λ xs. IsChunkText false (take m xs)) (behind_is n text) there in
    subst (λ xs. IsFront Chunked xs Chunked) (sym (take-add n m text)) (λ rest. (
      λ body. join_chunks before more rest (λ next. (front next).0) chunk body,
      λ begins. begins_body rest (skip_chunks before more rest
          (λ next begun. begun_body next ((front next).1 (begins_body (before ++ next) begun))) chunk (begun_body ((before ++ more) ++ rest) begins)),
    ))

-- and the last part
pub last_front : (n m : ℕ) (text : List ℕ) → IsFront Chunked (take n text) Chunked → IsChunkText true (take m (behind n text)) → IsFront Chunked (take (n + m) text) Empty
last_front n m text front there =
    let before = take n text in
    let more = take m (drop n text) in
    let last : IsChunkText true more = subst (λ xs. IsChunkText true (take m xs)) (behind_is n text) there in
    subst (λ xs. IsFront Chunked xs Empty) (sym (take-add n m text)) (λ rest. (
      λ none. subst (λ end. IsChunked ((before ++ more) ++ end)) (sym none) (subst IsChunked (sym (append-nil (before ++ more))) ((front more).0 (last_part more last))),
      λ begins. ([], rest, refl, refl),
    ))

-- ---- where a chunk stands

-- a size line has bytes
pub size_some : (n size : ℕ) (text : List ℕ) → n ≤ length text → IsSizeText size (take n text) → 0 < n
size_some n size text within (line, ok, tells, is) =
    omega (arith, length-take-le n text within, ap length is, three_size line ok.form)

-- behind a size line that tells 0 stands no trailer
pub no_last : (n : ℕ) (text : List ℕ) → IsSizeText 0 (take n text) → ¬ Begins (IsPartText Trailer) (behind n text) → ¬ Begins IsChunkText text
no_last n text line none begins =
    none (subst (Begins (IsPartText Trailer)) (sym (behind_is n text)) (skip_last 0 (take n text) (drop n text) line (subst (Begins IsChunkText) (sym (take-append-drop n text)) begins)))

-- or one does
pub found_last : (n m value : ℕ) (text : List ℕ) → IsSizeText 0 (take n text) → IsPartText Trailer value (take m (behind n text)) → IsChunkText true (take (n + m) text)
found_last n m value text line trailer =
    subst (IsChunkText true) (sym (take-add n m text)) (join_last value (take n text) (take m (drop n text)) line
    (subst (λ xs. IsPartText Trailer value (take m xs)) (behind_is n text) trailer))

-- behind one that tells more stands no data
pub no_chunk : (n size : ℕ) (text : List ℕ) → 0 < size → IsSizeText size (take n text) → ¬ Begins {A = ℕ} (IsDataText size) (behind n text) → ¬ Begins IsChunkText text
no_chunk n size text some line none begins =
    none (subst (Begins {A = ℕ} (IsDataText size)) (sym (behind_is n text))
    (skip_size 0 size (take n text) (drop n text) some line (subst (Begins IsChunkText) (sym (take-append-drop n text)) begins)))

-- or it does
pub found_chunk : (n m size : ℕ) (text : List ℕ) → 0 < size → IsSizeText size (take n text) → IsDataText size m (take m (behind n text)) → IsChunkText false (take (n + m) text)
found_chunk n m size text some line content =
    subst (IsChunkText false) (sym (take-add n m text)) (join_chunk m size (take n text) (take m (drop n text)) some line
    (subst (λ xs. IsDataText size m (take m xs)) (behind_is n text) content))

-- so much data, and the line end behind it
pub found_data : (size m value : ℕ) (text : List ℕ) → size ≤ length text → IsPartText DataEnd value (take m (behind size text)) → IsDataText size (size + m) (take (size + m) text)
found_data size m value text within end =
    subst (IsDataText size (size + m)) (sym (take-add size m text))
    (join_data (size + m) size (take size text) (take m (drop size text)) (length-take-le size text within)
    (subst (λ xs. IsPartText DataEnd value (take m xs)) (behind_is size text) end))

-- what never becomes a part is none
pub never_part : (part : Part) (text : List ℕ) → NeverBegins (IsPartText part) text → ¬ Begins (IsPartText part) text
never_part part text never begins = never [] (subst (Begins (IsPartText part)) (sym (append-nil text)) begins)

-- ---- the rest of the body

take_front : (front back : List ℕ) (reading : Reading) → Taken (front ++ back) back reading.unread reading.unread front
take_front front back reading =
    record { more = []; read = sym (prepend_nothing reading.unread); parted = append-nil (front ++ back); in_turn = inl refl }

-- the front went out, and then the rest was moved, or not
pub front_moved : (kind rest_kind : BodyKind) (front back left : List ℕ) (old new : Reading) (before mid after : Option (List ℕ))
    (answer : Result (Unit {0}) BodyFault) → IsFront kind front rest_kind → mid ≡ append_known before front
    → Moved (λ _ text. IsBody rest_kind text) back left old new mid after answer
    → Moved (λ _ text. IsBody kind text) (front ++ back) left old new before after answer
front_moved kind rest_kind front back left old new before mid after (Ok value) is sent moved =
    part_later (λ _ text. IsBody kind text) (λ _ text. IsBody rest_kind text) (front ++ back) back left old old new before mid after value value front
    (take_front front back old) sent (λ rest part. (is rest).0 part) moved
front_moved kind rest_kind front back left old new before mid after (Err fault) is sent moved =
    fault_later (λ _ text. IsBody kind text) (λ _ text. IsBody rest_kind text) (front ++ back) back left old old new before mid after fault front
    (take_front front back old) sent
    (λ rest (value, body, more, part, split). let begins = (is rest).1 (body, more, part, split) in (tt, begins.0, begins.1, begins.2, begins.3))
    (λ value rest part. (tt, [], (is (rest ++ [])).0 (subst (λ xs. IsBody rest_kind xs) (sym (append-nil rest)) part)))
    moved
