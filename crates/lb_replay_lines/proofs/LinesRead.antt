-- Lines of a text, as a reader takes them one after another.
use Rattle.std.proofs.Common.{◌≡◌, ℕ, ◌+◌, ◌<◌, Bool, true, false, eqb, cond, Option, Some, None, List, [], ◌∷◌, ◌++◌, length, drop, flat_map, option_map, IfSome, refl, sym, ap, subst, ◌∙◌, arith, append_assoc, append-nil, length-append}
use Rattle.std.specs.Prelude.{⊤}
use Rattle.std.proofs.Math.Seq.{drop-append_seam}
use Rattle.std.proofs.lemmas.Grind.{flat_map-append}
use Rattle.std.specs.Io.BufRead.{take_through, drop_through, DropsThrough}
use Rattle.std.specs.Io.KnownBytes.{IsAtEnd}
use Rattle.lb_replay_lines.specs.Lines.{with_byte, lines_of, is_end, through_end, behind_end}
use Rattle.lb_replay_lines.specs.Readings.{ReadingView, AddsLine, AddsThroughEnd, AtEnd}

-- the first line, and those behind it
pub first_line : (byte : ℕ) (text : List ℕ) → lines_of (byte ∷ text) ≡ take_through 10 (byte ∷ text) ∷ lines_of (drop_through 10 (byte ∷ text))
unfolding lines_of
first_line byte [] = at (eqb byte 10)
  where
    at : (b : Bool) → (byte ∷ []) ∷ [] ≡ cond b (byte ∷ []) (byte ∷ []) ∷ lines_of (cond b [] [])
    at true = refl
    at false = refl
first_line byte (next ∷ text) = ap (with_byte byte) (first_line next text) ∙ at (first_line next text) (eqb byte 10)
  where
    line : List ℕ
    line = take_through 10 (next ∷ text)

    more : List ℕ
    more = drop_through 10 (next ∷ text)

    at : lines_of (next ∷ text) ≡ line ∷ lines_of more → (b : Bool)
        → cond b ((byte ∷ []) ∷ line ∷ lines_of more) ((byte ∷ line) ∷ lines_of more)
        ≡ cond b (byte ∷ []) (byte ∷ line) ∷ lines_of (cond b (next ∷ text) more)
    at split true = ap (λ l. (byte ∷ []) ∷ l) (sym split)
    at split false = refl

-- a read that gave bytes
pub adds_line : (old new : Option (List ℕ)) (before after : List ℕ) → length before < length after
    → IfSome old (λ text. after ≡ before ++ take_through 10 text) → DropsThrough old new 10
    → AddsLine (option_map lines_of old) before after (option_map lines_of new)
adds_line None new before after more took dropped = tt
adds_line (Some []) new before after more took dropped =
    absurd (omega (arith, ap length took, length-append before []))
adds_line (Some (byte ∷ text)) new before after more took dropped =
    (take_through 10 (byte ∷ text), lines_of (drop_through 10 (byte ∷ text)), first_line byte text, took, ap (option_map lines_of) dropped)

-- a read that gave none
pub at_end : (old new : Option (List ℕ)) (before after : List ℕ) → IsAtEnd old
    → IfSome old (λ text. after ≡ before ++ take_through 10 text) → DropsThrough old new 10
    → AtEnd (option_map lines_of old) before after (option_map lines_of new)
unfolding lines_of
at_end None new before after end took dropped = tt
at_end (Some text) new before after end took dropped =
    let none : take_through 10 text ≡ [] = ap (take_through 10) end in
    let left : drop_through 10 text ≡ [] = ap (drop_through 10) end in
    (ap lines_of end, took ∙ ap (λ l. before ++ l) none ∙ append-nil before, ap (option_map lines_of) (dropped ∙ ap Some left))

-- ---- the lines of a plan's text

-- so far no line `end` was read
pub record HasRead (lines now : List (List ℕ)) (old new : ReadingView) : Type 0 where
  pub done : List (List ℕ)
  pub left : new.left ≡ Some now
  pub through : through_end lines ≡ done ++ through_end now
  pub behind : behind_end lines ≡ behind_end now
  pub piece : new.piece ≡ old.piece ++ flat_map (λ line. line) done
  pub count : new.count ≡ old.count + length done

abbrev pub ReadSoFar : Option (List (List ℕ)) → ReadingView → ReadingView → Type 0
ReadSoFar None old new = ⊤
ReadSoFar (Some lines) old new = (now : List (List ℕ)) × HasRead lines now old new

pub so_far_none : (left : Option (List (List ℕ))) (v : ReadingView) → v.left ≡ left → ReadSoFar left v v
so_far_none None v is = tt
so_far_none (Some lines) v is = (
  lines,
  record {
    done = [];
    left = is;
    through = refl;
    behind = refl;
    piece = sym (append-nil v.piece);
    count = omega arith;
  },
)

-- the line that was added, as the piece's end
added : (old line piece : List ℕ) → piece ≡ old ++ line → drop (length old) piece ≡ line
added old line piece e = ap (drop (length old)) e ∙ drop-append_seam old line

pieces : (old : List ℕ) (done : List (List ℕ)) (line mid new : List ℕ) → mid ≡ old ++ flat_map (λ l. l) done → new ≡ mid ++ line
    → new ≡ old ++ flat_map (λ l. l) (done ++ line ∷ [])
pieces old done line mid new before more =
    let e : flat_map (λ (l : List ℕ). l) (done ++ line ∷ []) ≡ flat_map (λ l. l) done ++ line =
    flat_map-append (λ (l : List ℕ). l) done (line ∷ []) ∙ ap (λ t. flat_map (λ (l : List ℕ). l) done ++ t) (append-nil line) in
    more ∙ ap (λ t. t ++ line) before ∙ append_assoc old (flat_map (λ l. l) done) line ∙ ap (λ t. old ++ t) (sym e)

module _ (lines now more : List (List ℕ)) (line : List ℕ) (old mid new : ReadingView) (h : HasRead lines now old mid)
    (split : now ≡ line ∷ more) (piece : new.piece ≡ mid.piece ++ line) (left : new.left ≡ Some more) (count : new.count ≡ mid.count + 1) where
  pub HasRead-more : is_end line ≡ false → HasRead lines more old new
  HasRead-more goes_on = record {
    done = h.done ++ line ∷ [];
    left = left;
    through =
        h.through ∙ ap (λ l. h.done ++ through_end l) split
        ∙ (ap (λ b. h.done ++ cond b (line ∷ []) (line ∷ through_end more)) goes_on ∙ sym (append_assoc h.done (line ∷ []) (through_end more)));
    behind = h.behind ∙ ap behind_end split ∙ ap (λ b. cond b more (behind_end more)) goes_on;
    piece = pieces old.piece h.done line mid.piece new.piece h.piece piece;
    count = omega (arith, h.count, count, length-append h.done (line ∷ []));
  }

  pub HasRead-end : is_end line ≡ true → AddsThroughEnd (Some lines) old new
  HasRead-end ends =
      let through : through_end lines ≡ h.done ++ line ∷ [] =
      h.through ∙ ap (λ l. h.done ++ through_end l) split ∙ ap (λ b. h.done ++ cond b (line ∷ []) (line ∷ through_end more)) ends in
      let behind : behind_end lines ≡ more = h.behind ∙ ap behind_end split ∙ ap (λ b. cond b more (behind_end more)) ends in (
        left ∙ ap Some (sym behind),
        pieces old.piece h.done line mid.piece new.piece h.piece piece ∙ ap (λ (ls : List (List ℕ)). old.piece ++ flat_map (λ l. l) ls) (sym through),
        omega (arith, h.count, count, length-append h.done (line ∷ []), ap length through),
      )

-- a line was read that isn't `end`
pub so_far_more : (start : Option (List (List ℕ))) (old mid new : ReadingView) → ReadSoFar start old mid
    → AddsLine mid.left mid.piece new.piece new.left → new.count ≡ mid.count + 1
    → is_end (drop (length mid.piece) new.piece) ≡ false → ReadSoFar start old new
so_far_more None old mid new so_far adds count goes_on = tt
so_far_more (Some lines) old mid new (now, h) adds count goes_on =
    let more = subst (λ l. AddsLine l mid.piece new.piece new.left) h.left adds in
    let line_is = added mid.piece more.0 new.piece more.3 in
    (more.1, HasRead-more lines now more.1 more.0 old mid new h more.2 more.3 more.4 count (ap is_end (sym line_is) ∙ goes_on))

-- the line `end` was read
pub so_far_end : (start : Option (List (List ℕ))) (old mid new : ReadingView) → ReadSoFar start old mid
    → AddsLine mid.left mid.piece new.piece new.left → new.count ≡ mid.count + 1
    → is_end (drop (length mid.piece) new.piece) ≡ true → AddsThroughEnd start old new
so_far_end None old mid new so_far adds count ends = tt
so_far_end (Some lines) old mid new (now, h) adds count ends =
    let more = subst (λ l. AddsLine l mid.piece new.piece new.left) h.left adds in
    let line_is = added mid.piece more.0 new.piece more.3 in
    HasRead-end lines now more.1 more.0 old mid new h more.2 more.3 more.4 count (ap is_end (sym line_is) ∙ ends)

-- no line was left
pub so_far_whole : (start : Option (List (List ℕ))) (old mid new : ReadingView) → ReadSoFar start old mid
    → AtEnd mid.left mid.piece new.piece new.left → new.count ≡ mid.count → AddsThroughEnd start old new
so_far_whole None old mid new so_far end count = tt
so_far_whole (Some lines) old mid new (now, h) end count =
    let none = subst (λ l. AtEnd l mid.piece new.piece new.left) h.left end in
    let through : through_end lines ≡ h.done = h.through ∙ ap (λ l. h.done ++ through_end l) none.0 ∙ append-nil h.done in
    let behind : behind_end lines ≡ [] = h.behind ∙ ap behind_end none.0 in (
      none.2 ∙ ap Some (sym behind),
      none.1 ∙ h.piece ∙ ap (λ (ls : List (List ℕ)). old.piece ++ flat_map (λ l. l) ls) (sym through),
      omega (arith, count, h.count, ap length through),
    )
