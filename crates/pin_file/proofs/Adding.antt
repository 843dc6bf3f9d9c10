-- Lines that are added to a draft.
use Rattle.std.proofs.Common.{◌≡◌, ◌≢◌, ℕ, ◌-◌, ◌<◌, ◌≤◌, Bool, true, false, ◌||◌, leb, inl, inr, Some, List, [], ◌∷◌, ◌++◌, length, get_or, codes, Ok, Err, refl, sym, ap, subst, ◌∙◌, arith, append_assoc, append-nil, length-append}
use Rattle.std.specs.List.{All, AllPairs, flat_map, list_any}
use Rattle.std.specs.Option.{ok_or}
use Rattle.std.specs.Str.{bytes_eq}
use Rattle.std.proofs.lemmas.Bool.{cases_lt}
use Rattle.std.proofs.lemmas.Bool.Decides.{nat_tests}
use Rattle.std.proofs.lemmas.List.{map_push, get_or_append_left}
use Rattle.std.proofs.lemmas.List.Concat.{flat_map-append}
use Rattle.std.proofs.lemmas.List.Elements.{All-nil, All-cons, All-push}
use Rattle.std.proofs.lemmas.List.Quantifiers.{all_pairs_push}
use Rattle.std.proofs.lemmas.Option.{slice_get-get_or}
use Rattle.std.proofs.Math.Seq.{get_or-append_seam}
use Rattle.lb_types.specs.Names.{is_name}
use Rattle.lb_types_pins.proofs.Pairs.{AllPairs-nil}
use Rattle.dual_cert_text.specs.declared.fault.TextFault.TheVariants.{BadLine}
use Rattle.dual_cert_text.specs.Spellings.{line_of_words}
use Rattle.dual_cert_text.proofs.ServerTexts.{bytes_differ}
use Rattle.dual_cert_text.proofs.Steps.{bind_ok, ok_or_ok, unless_err, if_err, either, bytes_is}
use Rattle.pin_file.specs.declared.file_pin.FilePin.{FilePin}
use Rattle.pin_file.specs.declared.backend_pins.BackendPins.{BackendPins}
use Rattle.pin_file.specs.Files.{IsFilePin, IsBackendPins, IsPinFile}
use Rattle.pin_file.specs.Spellings.{pin_line, backend_line, backend_lines}
use Rattle.pin_file.specs.Texts.{PinFileDraft, draft_of, backends_of, has_name, is_taken, no_pins, with_pin, comes_next, next_pin, pin_of, backend_of, add_backend, add_pin, add_line}
use Rattle.pin_file.proofs.Lines.{words_of, pin_found, backend_found}

-- ---- the last of a list

pub all_front : {X : Type 0} (P : X → Type 0) (xs ys : List X) → All P (xs ++ ys) → All P xs
all_front P xs ys all k d within = rw (get_or_append_left xs ys d k within) at (all k d (omega (arith, within, length-append xs ys)))

pub all_last : {X : Type 0} (P : X → Type 0) (xs : List X) (y : X) (ys : List X) → All P (xs ++ y ∷ ys) → P y
all_last P xs y ys all = rw (get_or-append_seam xs y ys y) at (all (length xs) y (omega (arith, length-append xs (y ∷ ys))))

pub pairs_front : {X : Type 0} (R : X → X → Type 0) (xs ys : List X) → AllPairs R (xs ++ ys) → AllPairs R xs
pairs_front R xs ys all i j d below within =
    let left = all i j d below (omega (arith, within, length-append xs ys)) in
    rw (get_or_append_left xs ys d i (omega arith), get_or_append_left xs ys d j within) at left

pub pairs_last : {X : Type 0} (R : X → X → Type 0) (xs : List X) (y : X) (ys : List X) → AllPairs R (xs ++ y ∷ ys) → (k : ℕ) (d : X) → k < length xs → R (get_or xs k d) y
pairs_last R xs y ys all k d within =
    let both = all k (length xs) d within (omega (arith, length-append xs (y ∷ ys))) in
    rw (get_or_append_left xs (y ∷ ys) d k within, get_or-append_seam xs y ys d) at both

-- ---- files

-- the lines of all backends of a draft
abbrev pub draft_lines : PinFileDraft → List (List ℕ)
draft_lines draft = flat_map (λ b. backend_lines b) (backends_of draft)

-- the last backend may be another one of the same name
same_last : (before : List BackendPins) (b c : BackendPins) → IsPinFile (before ++ b ∷ []) → IsBackendPins c → b.name ≡ c.name → IsPinFile (before ++ c ∷ [])
same_last before b c kept lawful same =
    record {
      backends = All-push IsBackendPins before c (all_front IsBackendPins before (b ∷ []) kept.backends) lawful;
      distinct = all_pairs_push (λ a e. a.name ≢ e.name) before c (pairs_front (λ a e. a.name ≢ e.name) before (b ∷ []) kept.distinct) (λ k d within.
          let N : List ℕ → Type 0 = λ n. (get_or before k d).name ≢ n in
          subst N same (pairs_last (λ a e. a.name ≢ e.name) before b [] kept.distinct k d within));
    }

none_named : (name : List ℕ) (bs : List BackendPins) → list_any (λ b. has_name name b) bs ≡ false → All (λ b. b.name ≢ name) bs
none_named name [] none = All-nil (λ b. b.name ≢ name)
none_named name (b ∷ bs) none =
    let both = or_false (has_name name b) (list_any (λ c. has_name name c) bs) none in
    All-cons (λ c. c.name ≢ name) b bs (bytes_differ b.name name both.0) (none_named name bs both.1)
  where
    or_false : (a b : Bool) → (a || b) ≡ false → (a ≡ false) × (b ≡ false)
    or_false true b is = cc
    or_false false b is = (refl, is)

empty_lawful : (name : List ℕ) → is_name name ≡ true → IsBackendPins (no_pins name)
empty_lawful name named = record {
  name = named;
  few = omega arith;
  pins = All-nil IsFilePin;
  falling = AllPairs-nil (λ p q. q.age ≤ p.age);
}

file_more : (bs : List BackendPins) (name : List ℕ) → IsPinFile bs → is_name name ≡ true → list_any (λ b. has_name name b) bs ≡ false → IsPinFile (bs ++ no_pins name ∷ [])
file_more bs name kept named none =
    record {
      backends = All-push IsBackendPins bs (no_pins name) kept.backends (empty_lawful name named);
      distinct = all_pairs_push (λ a b. a.name ≢ b.name) bs (no_pins name) kept.distinct (λ k d within. none_named name bs none k d within);
    }

lines_more : (bs : List BackendPins) (b : BackendPins) → flat_map (λ c. backend_lines c) (bs ++ b ∷ []) ≡ flat_map (λ c. backend_lines c) bs ++ backend_lines b
lines_more bs b = flat_map-append (λ c. backend_lines c) bs (b ∷ []) ∙ ap (λ l. flat_map (λ c. backend_lines c) bs ++ l) (append-nil (backend_lines b))

no_pins_lines : (name : List ℕ) → backend_lines (no_pins name) ≡ backend_line name ∷ []
unfolding backend_lines
no_pins_lines name = refl

with_pin_lines : (b : BackendPins) (p : FilePin) → backend_lines (with_pin b p) ≡ backend_lines b ++ pin_line p ∷ []
unfolding backend_lines
with_pin_lines b p = ap (λ l. backend_line b.name ∷ l) (map_push (λ q. pin_line q) b.pins p)

words_line : (words : List (List ℕ)) (name : List ℕ) → words ≡ name ∷ [] → line_of_words (codes "backend" ∷ words) ≡ backend_line name
unfolding backend_line
words_line words name is = ap (λ ws. line_of_words (codes "backend" ∷ ws)) is

pin_words_line : (words : List (List ℕ)) (p : FilePin) → words ≡ words_of p → line_of_words (codes "pin" ∷ words) ≡ pin_line p
unfolding pin_line
pin_words_line words p is = ap (λ ws. line_of_words (codes "pin" ∷ ws)) is

-- what adding a line does to a lawful draft: it stays so, and has the line as its last one
pub record Adds (draft next : PinFileDraft) (line : List ℕ) : Type 0 where
  pub kept : IsPinFile (backends_of next)
  pub lines : draft_lines next ≡ draft_lines draft ++ line ∷ []

backend_added : (n : ℕ) (draft next : PinFileDraft) (words : List (List ℕ)) → IsPinFile (backends_of draft) → add_backend n draft words ≡ Ok next → Adds draft next (line_of_words (codes "backend" ∷ words))
unfolding add_backend
backend_added n draft next words kept is =
    let read = bind_ok (ok_or (backend_of words) (BadLine n)) _ next is in
    let name = read.0 in
    let found = backend_found words name (ok_or_ok _ _ _ read.1) in
    let free = unless_err (is_taken draft name) _ _ _ read.2 in
    let same : draft_of (backends_of draft) (Some (no_pins name)) ≡ next = (let e = free.1 in cc) in
    let line = words_line words name found.0 in
    let A : PinFileDraft → Type 0 = λ d. Adds draft d (line_of_words (codes "backend" ∷ words)) in
    subst A same (record {
      kept = file_more (backends_of draft) name kept found.1 free.0;
      lines = lines_more (backends_of draft) (no_pins name) ∙ ap (λ l. draft_lines draft ++ l) (no_pins_lines name ∙ ap (λ l. l ∷ []) (sym line));
    })

-- ages fall, so an age that isn't above the last one is above none
none_younger : (pins : List FilePin) (p : FilePin) → AllPairs (λ a b. b.age ≤ a.age) pins → comes_next pins p ≡ true → (k : ℕ) (d : FilePin) → k < length pins → p.age ≤ (get_or pins k d).age
none_younger pins p falling next k d within =
    let last = get_or pins (length pins - 1) d in
    let found = slice_get-get_or pins (length pins - 1) d (omega arith) in
    let test : leb p.age last.age ≡ true = rw found at next in
    let low : p.age ≤ last.age = grind (arith, nat_tests) in
    elim (cases_lt k (length pins - 1)) [
      | inl earlier ↦ let above = falling k (length pins - 1) d earlier (omega arith) in omega (arith, above, low)
      | inr at ↦ let same : k ≡ length pins - 1 = omega arith in rw same low
    ]

pin_lawful : (b : BackendPins) (p : FilePin) → IsBackendPins b → IsFilePin p → length b.pins < 16777216 → comes_next b.pins p ≡ true → IsBackendPins (with_pin b p)
pin_lawful b p kept lawful room next = record {
  name = kept.name;
  few = omega (arith, room, length-append b.pins (p ∷ []));
  pins = All-push IsFilePin b.pins p kept.pins lawful;
  falling = all_pairs_push (λ a c. c.age ≤ a.age) b.pins p kept.falling (λ k d within. none_younger b.pins p kept.falling next k d within);
}

pin_more : (before : List BackendPins) (b : BackendPins) (p : FilePin) → IsPinFile (before ++ b ∷ []) → IsFilePin p → length b.pins < 16777216 → comes_next b.pins p ≡ true → Adds (draft_of before (Some b)) (draft_of before (Some (with_pin b p))) (pin_line p)
pin_more before b p kept lawful room next =
    let own = all_last IsBackendPins before b [] kept.backends in
    record {
      kept = same_last before b (with_pin b p) kept (pin_lawful b p own lawful room next) refl;
      lines = lines_more before (with_pin b p) ∙ ap (λ l. flat_map (λ c. backend_lines c) before ++ l) (with_pin_lines b p)
          ∙ sym (append_assoc (flat_map (λ c. backend_lines c) before) (backend_lines b) (pin_line p ∷ []))
          ∙ ap (λ l. l ++ pin_line p ∷ []) (sym (lines_more before b));
    }

pin_next : (n : ℕ) (b more : BackendPins) (p : FilePin) → next_pin n b p ≡ Ok more → (with_pin b p ≡ more) × (length b.pins < 16777216) × (comes_next b.pins p ≡ true)
pin_next n b more p is =
    let room = unless_err (leb 16777216 (length b.pins)) _ _ _ is in
    let next = if_err (comes_next b.pins p) _ _ _ room.1 in
    ((let e = next.1 in cc), (let h = room.0 in grind (arith, nat_tests)), next.0)

pin_added : (n : ℕ) (draft next : PinFileDraft) (words : List (List ℕ)) → IsPinFile (backends_of draft) → add_pin n draft words ≡ Ok next → Adds draft next (line_of_words (codes "pin" ∷ words))
unfolding add_pin
pin_added n draft next words kept is =
    let read = bind_ok (ok_or (pin_of words) (BadLine n)) _ next is in
    let last = bind_ok (ok_or draft.last (BadLine n)) _ next read.2 in
    let made = bind_ok (next_pin n last.0 read.0) _ next last.2 in
    let p = read.0 in
    let b = last.0 in
    let found = pin_found words p (ok_or_ok _ _ _ read.1) in
    let due = pin_next n b made.0 p made.1 in
    let there : draft.last ≡ Some b = ok_or_ok _ _ _ last.1 in
    let whole : draft_of draft.before (Some b) ≡ draft = ap (λ l. draft_of draft.before l) (sym there) in
    let same : draft_of draft.before (Some (with_pin b p)) ≡ next = ap (λ c. draft_of draft.before (Some c)) due.0 ∙ (let e = made.2 in cc) in
    let K : PinFileDraft → Type 0 = λ d. IsPinFile (backends_of d) in
    let D : PinFileDraft → Type 0 = λ d. Adds d next (line_of_words (codes "pin" ∷ words)) in
    let N : PinFileDraft → Type 0 = λ d. Adds (draft_of draft.before (Some b)) d (line_of_words (codes "pin" ∷ words)) in
    let L : List ℕ → Type 0 = λ line. Adds (draft_of draft.before (Some b)) (draft_of draft.before (Some (with_pin b p))) line in
    subst D whole (subst N same (subst L (sym (pin_words_line words p found.0)) (pin_more draft.before b p (subst K (sym whole) kept) found.1 due.1 due.2)))

pub line_added : (n : ℕ) (draft next : PinFileDraft) (words : List (List ℕ)) → IsPinFile (backends_of draft) → add_line n draft words ≡ Ok next → Adds draft next (line_of_words words)
unfolding add_line
line_added n draft next [] kept is = absurd (let e : Err (BadLine n) ≡ Ok next = is in cc)
line_added n draft next (word ∷ words) kept is =
    let F : List ℕ → Type 0 = λ w. Adds draft next (line_of_words (w ∷ words)) in
    elim (either (bytes_eq word (codes "pin")) _ _ _ is) [
      | inl pin ↦ subst F (sym (bytes_is word (codes "pin") pin.0)) (pin_added n draft next words kept pin.1)
      | inr other ↦
          let backend = if_err (bytes_eq word (codes "backend")) _ _ _ other.1 in
          subst F (sym (bytes_is word (codes "backend") backend.0)) (backend_added n draft next words kept backend.1)
    ]
