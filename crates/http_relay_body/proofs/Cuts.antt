-- Size lines and trailers that are cut short: what the shortest whole has behind the cut.
use Rattle.std.proofs.Common.{◌≡◌, ◌≢◌, ◌⊎◌, inl, inr, ℕ, ◌+◌, ◌-◌, ◌<◌, ◌≤◌, Bool, true, false, List, [], ◌∷◌, ◌++◌, length, length-append, drop, get_or, All, Option, None, Some, refl, ap, sym, ◌∙◌, subst, arith, append_assoc, append-nil}
use Rattle.std.proofs.lemmas.Bool.{false≢true}
use Rattle.std.proofs.lemmas.List.Elements.{All-nil, All-cons, All-head, All-tail, All-append, All-weaker, All-get_or}
use Rattle.std.specs.Char.{is_ascii_hexdigit}
use Rattle.httparse.specs.Ascii.{crlf_bytes}
use Rattle.httparse.specs.Grammar.{AllPass, is_ows, is_extension_byte, ChunkLine, IsChunkLine, print_chunk_line, print_extension, ReadsChunkLine, chunk_size, HasNoChunkLine, MayBecomeChunkLine}
use Rattle.http_relay_body.specs.Trailers.{LineNeeds}
use Rattle.http_relay_body.specs.declared.chunks.part.Part.TheVariants.{SizeLine}
use Rattle.http_relay_body.specs.declared.chunks.part.Sight.TheVariants.{Short}
use Rattle.http_relay_body.specs.Moves.{NeverBegins}
use Rattle.http_relay_body.specs.Parts.{IsSizeText, least_behind_size}
use Rattle.http_relay_body.specs.Rooms.{Sees}
use Rattle.http_relay_body.proofs.Lines.{none_size}
use Rattle.http_relay_body.proofs.Finishes.{zero_line, zero_form}
use Rattle.http_relay_body.proofs.Sights.{three_size, line_rest, behind_grows}

-- ---- cuts

-- the cut is in the first of two parts, or in the second
pub split : (a b text more : List ℕ) → a ++ b ≡ text ++ more
    → ((s : List ℕ) × (a ≡ text ++ s) × (more ≡ s ++ b)) ⊎ ((s : List ℕ) × (text ≡ a ++ s) × (b ≡ s ++ more))
split a b [] more e = inl (a, refl, sym e)
split [] b (x ∷ text) more e = inr (x ∷ text, refl, e)
split (y ∷ a) b (x ∷ text) more e =
    let head : y ≡ x = ap (λ xs. get_or xs 0 0) e in
    elim (split a b text more (ap (drop 1) e)) [
      | inl z ↦ inl (z.0, cc (head, z.1), z.2)
      | inr z ↦ inr (z.0, cc (head, z.1), z.2)
    ]

-- a front of bytes that all pass
front_passes : (test : ℕ → Bool) (front rest all : List ℕ) → all ≡ front ++ rest → AllPass test all → AllPass test front
front_passes test [] rest all is pass = All-nil _
front_passes test (x ∷ front) rest all is pass =
    let whole = subst (AllPass test) is pass in
    All-cons (λ b. test b ≡ true) x front (All-head (λ b. test b ≡ true) x (front ++ rest) whole)
    (front_passes test front rest (front ++ rest) refl (All-tail (λ b. test b ≡ true) x (front ++ rest) whole))

-- bytes behind the front of something that isn't whole
some_behind : (text more : List ℕ) (whole : List ℕ) → (text ≡ whole ++ [] → ⊥) → text ++ more ≡ whole → 0 < length more
some_behind text [] whole none is = absurd (none (sym (append-nil text) ∙ is ∙ sym (append-nil whole)))
some_behind text (x ∷ more) whole none is = omega arith

-- ---- size lines

-- none of the bytes is a carriage return
abbrev IsReturnless : List ℕ → Type 0
IsReturnless text = All (λ b. b ≢ 13) text

returnless : (test : ℕ → Bool) → test 13 ≡ false → (text : List ℕ) → AllPass test text → IsReturnless text
returnless test fails text pass =
    All-weaker (λ b. test b ≡ true) (λ b. b ≢ 13) (λ b passes e. false≢true (sym fails ∙ ap test (sym e) ∙ passes)) text pass

-- CR LF makes the text, which has no CR, a size line, or LF does
abbrev LineCut : List ℕ → Type 0
LineCut text =
    (line : ChunkLine) × IsChunkLine line
    × ((IsReturnless text × (text ++ crlf_bytes ≡ print_chunk_line line)) ⊎ (text ++ 10 ∷ [] ≡ print_chunk_line line))

-- the bytes of a line before its line end
abbrev line_front : ChunkLine → List ℕ
line_front line = line.digits ++ (line.pad ++ print_extension line.extension)

front_and_end : (line : ChunkLine) (end : List ℕ) → line_front line ++ end ≡ line.digits ++ (line.pad ++ (print_extension line.extension ++ end))
front_and_end line end =
    append_assoc line.digits (line.pad ++ print_extension line.extension) end ∙ ap (λ xs. line.digits ++ xs) (append_assoc line.pad (print_extension line.extension) end)

line_is : (line : ChunkLine) → print_chunk_line line ≡ line_front line ++ crlf_bytes
unfolding print_chunk_line
line_is line = ap (λ xs. xs ++ crlf_bytes) (append_assoc line.digits line.pad (print_extension line.extension))

extension_returnless : (extension : Option (List ℕ)) (line : ChunkLine) → line.extension ≡ extension → IsChunkLine line → IsReturnless (print_extension extension)
extension_returnless None line is form = All-nil _
extension_returnless (Some text) line is form =
    All-cons (λ b. b ≢ 13) 59 text (λ e. omega (arith, e)) (returnless is_extension_byte refl text (rw is at form.extension))

line_returnless : (line : ChunkLine) → IsChunkLine line → IsReturnless (line_front line)
line_returnless line form =
    All-append (λ b. b ≢ 13) line.digits (line.pad ++ print_extension line.extension) (returnless is_ascii_hexdigit refl line.digits form.digits.2)
    (All-append (λ b. b ≢ 13) line.pad (print_extension line.extension) (returnless is_ows refl line.pad form.pad) (extension_returnless line.extension line refl form))

-- the cut is before the line end
cut_at_end : (line : ChunkLine) → IsChunkLine line → LineCut (line_front line)
cut_at_end line form = (line, form, inl (line_returnless line form, sym (line_is line)))

-- the cut is in the line end
cut_in_line_end : (line : ChunkLine) → IsChunkLine line → LineCut (line_front line ++ 13 ∷ [])
cut_in_line_end line form = (line, form, inr (append_assoc (line_front line) (13 ∷ []) (10 ∷ []) ∙ sym (line_is line)))

-- the cut is in the digits
cut_in_digits : (text s : List ℕ) (line : ChunkLine) → IsChunkLine line → 0 < length text → line.digits ≡ text ++ s → LineCut text
cut_in_digits text s line form some is =
    let sizes = ap length is ∙ length-append text s in
    subst LineCut (append-nil text)
    (cut_at_end (record { digits = text; pad = []; extension = None }) (record {
      digits = (some, omega (arith, sizes, form.digits.1), front_passes is_ascii_hexdigit text s line.digits is form.digits.2);
      pad = All-nil _;
      extension = tt;
    }))

-- the cut is in the blanks
cut_in_pad : (pad s : List ℕ) (line : ChunkLine) → IsChunkLine line → line.pad ≡ pad ++ s → LineCut (line.digits ++ pad)
cut_in_pad pad s line form is =
    subst LineCut (ap (λ xs. line.digits ++ xs) (append-nil pad))
    (cut_at_end (record { digits = line.digits; pad = pad; extension = None })
    (record { digits = form.digits; pad = front_passes is_ows pad s line.pad is form.pad; extension = tt }))

-- the cut is in the extension
cut_in_extension : (text s : List ℕ) (extension : Option (List ℕ)) (line : ChunkLine) → IsChunkLine line → line.extension ≡ extension
    → print_extension extension ≡ text ++ s → LineCut (line.digits ++ (line.pad ++ text))
cut_in_extension [] s extension line form same is =
    cut_at_end (record { digits = line.digits; pad = line.pad; extension = None }) (record { digits = form.digits; pad = form.pad; extension = tt })
cut_in_extension (x ∷ text) s None line form same is = absurd (omega (arith, ap length is))
cut_in_extension (x ∷ text) s (Some whole) line form same is =
    let byte : 59 ≡ x = ap (λ xs. get_or xs 0 0) is in
    subst (λ b. LineCut (line.digits ++ (line.pad ++ b ∷ text))) byte
    (cut_at_end (record { digits = line.digits; pad = line.pad; extension = Some text })
    (record { digits = form.digits; pad = form.pad; extension = front_passes is_extension_byte text s whole (ap (drop 1) is) (rw same at form.extension) }))

-- the cut is behind the extension
cut_behind_extension : (s more : List ℕ) (line : ChunkLine) → IsChunkLine line → 0 < length more → crlf_bytes ≡ s ++ more
    → LineCut (line.digits ++ (line.pad ++ (print_extension line.extension ++ s)))
cut_behind_extension [] more line form some is = subst LineCut (sym (append-nil (line_front line)) ∙ front_and_end line []) (cut_at_end line form)
cut_behind_extension (x ∷ []) more line form some is =
    let byte : 13 ≡ x = ap (λ xs. get_or xs 0 0) is in
    subst LineCut (front_and_end line (13 ∷ []) ∙ ap (λ b. line.digits ++ (line.pad ++ (print_extension line.extension ++ b ∷ []))) byte) (cut_in_line_end line form)
cut_behind_extension (x ∷ y ∷ s) more line form some is = absurd (omega (arith, ap length is, length-append s more, some))

cut_behind_pad : (s more : List ℕ) (line : ChunkLine) → IsChunkLine line → 0 < length more → print_extension line.extension ++ crlf_bytes ≡ s ++ more
    → LineCut (line.digits ++ (line.pad ++ s))
cut_behind_pad s more line form some is =
    elim (split (print_extension line.extension) crlf_bytes s more is) [
      | inl z ↦ cut_in_extension s z.0 line.extension line form refl z.1
      | inr z ↦ subst (λ xs. LineCut (line.digits ++ (line.pad ++ xs))) (sym z.1) (cut_behind_extension z.0 more line form some z.2)
    ]

cut_behind_digits : (s more : List ℕ) (line : ChunkLine) → IsChunkLine line → 0 < length more
    → line.pad ++ (print_extension line.extension ++ crlf_bytes) ≡ s ++ more → LineCut (line.digits ++ s)
cut_behind_digits s more line form some is =
    elim (split line.pad (print_extension line.extension ++ crlf_bytes) s more is) [
      | inl z ↦ cut_in_pad s z.0 line form z.1
      | inr z ↦ subst (λ xs. LineCut (line.digits ++ xs)) (sym z.1) (cut_behind_pad z.0 more line form some z.2)
    ]

-- a size line was cut
cut_line : (text more : List ℕ) (line : ChunkLine) → IsChunkLine line → 0 < length text → 0 < length more → text ++ more ≡ print_chunk_line line → LineCut text
cut_line text more line form begun some is =
    elim (split line.digits (line.pad ++ (print_extension line.extension ++ crlf_bytes)) text more
    (sym (front_and_end line crlf_bytes) ∙ sym (line_is line) ∙ sym is)) [
      | inl z ↦ cut_in_digits text z.0 line form begun z.1
      | inr z ↦ subst LineCut (sym z.1) (cut_behind_digits z.0 more line form some z.2)
    ]

line_more : (text more : List ℕ) (line : ChunkLine) → HasNoChunkLine text → ReadsChunkLine (text ++ more) line [] → 0 < length more
line_more text more line none reads =
    some_behind text more (print_chunk_line line) (λ e. none line [] (reads.0, e)) (reads.1 ∙ append-nil (print_chunk_line line))

line_cut : (text : List ℕ) → HasNoChunkLine text → MayBecomeChunkLine text → 0 < length text → LineCut text
line_cut text none (more, line, reads) begun =
    cut_line text more line reads.0 begun (line_more text more line none reads) (reads.1 ∙ append-nil (print_chunk_line line))

last_return : (text : List ℕ) → IsReturnless text → 0 < length text → get_or text (length text - 1) 0 ≢ 13
last_return text none begun = All-get_or (λ b. b ≢ 13) text (length text - 1) 0 (omega (arith, begun)) none

-- behind a carriage return a line feed is missing
pub needs_feed : (text : List ℕ) → HasNoChunkLine text → MayBecomeChunkLine text → 0 < length text → get_or text (length text - 1) 0 ≡ 13 → LineNeeds text 1
needs_feed text none may begun last =
    let x = line_cut text none may begun in
    record {
      enough = elim x.2 [
        | inl y ↦ absurd (last_return text y.0 begun last)
        | inr y ↦ (10 ∷ [], x.0, (x.1, y ∙ sym (append-nil (print_chunk_line x.0))), refl)
      ];
      least = λ rest line reads. line_more text rest line none reads;
    }

-- and elsewhere both
pub needs_end : (text : List ℕ) → HasNoChunkLine text → MayBecomeChunkLine text → 0 < length text → get_or text (length text - 1) 0 ≢ 13 → LineNeeds text 2
needs_end text none may begun other =
    let x = line_cut text none may begun in
    record {
      enough = elim x.2 [
        | inl y ↦ (crlf_bytes, x.0, (x.1, y.1 ∙ sym (append-nil (print_chunk_line x.0))), refl)
        | inr y ↦ absurd (omega (arith, line_rest text (10 ∷ []) x.0 x.1 none y 2 (inr (omega arith, other))))
      ];
      least = λ rest line reads. line_rest text rest line reads.0 none (reads.1 ∙ append-nil (print_chunk_line line)) 2 (inr (omega arith, other));
    }

-- of nothing all is missing
pub needs_all : (text : List ℕ) → length text ≡ 0 → LineNeeds text 3
unfolding print_chunk_line
needs_all [] none = record {
  enough = (48 ∷ 13 ∷ 10 ∷ [], zero_line, (zero_form, refl), refl);
  least = λ rest line reads.
      let sizes = ap length (reads.1 ∙ append-nil (print_chunk_line line)) in
      omega (arith, sizes, three_size line reads.0);
}
needs_all (x ∷ text) none = absurd (omega (arith, none))

-- ---- what is seen of them

-- how much must come behind the beginning of a size line
pub size_seen : (text : List ℕ) (bytes size : ℕ) → HasNoChunkLine text → LineNeeds text bytes → 0 < bytes → length text + bytes ≤ 256
    → ((told : ℕ) (rest : List ℕ) → IsSizeText told (text ++ rest) → size ≤ told) → Sees SizeLine text (Short (bytes + least_behind_size size))
size_seen text bytes size none needs some room least =
    let (more, line, reads, count) = needs.enough in
    let is = reads.1 ∙ append-nil (print_chunk_line line) in
    let sizes = sym (length-append text more) ∙ ap length is in (
      none_size text none,
      omega (arith, room, some),
      omega (arith, some),
      (λ told rest x.
          let behind = behind_grows size told (least told rest x) in
          omega (arith, behind, needs.least rest x.0 (x.1.form, x.3 ∙ sym (append-nil (print_chunk_line x.0))))),
      (chunk_size line, more, (line, record { form = reads.0; short = omega (arith, sizes, room, count) }, refl, is)),
    )

-- none can come within the limit
pub size_over : (text : List ℕ) (bytes : ℕ) → HasNoChunkLine text → LineNeeds text bytes → 256 < length text + bytes → NeverBegins IsSizeText text
size_over text bytes none needs over more (size, front, rest, (line, ok, tells, is), parted) =
    elim (split text more front rest parted) [
      | inl z ↦ none line z.0 (ok.form, z.1 ∙ ap (λ xs. xs ++ z.0) is)
      | inr z ↦
          (let whole = sym z.1 ∙ is in
          let sizes = sym (length-append text z.0) ∙ ap length whole in
          let least = needs.least z.0 line (ok.form, whole ∙ sym (append-nil (print_chunk_line line))) in
          absurd (omega (arith, sizes, ok.short, least, over)))
    ]
