-- Sendings one after another.
use Rattle.std.proofs.Common.{◌≡◌, ℕ, ◌+◌, ◌<◌, inl, inr, Option, Result, Ok, Err, List, [], ◌∷◌, ◌++◌, length, take, get_or, map, refl, sym, ap, subst, ◌∙◌, arith}
use Rattle.std.proofs.lemmas.Bool.{cases_lt}
use Rattle.std.proofs.lemmas.List.{take-append-le, take_all}
use Rattle.std.proofs.Math.Seq.{take-append-add}
use Rattle.lb_types_counted.specs.Writers.{WriterState, AppendsFront, Rises, WritesWhole}
use Rattle.lb_types_counted.proofs.Writes.{Appends-nil, Appends-then, ≤-Rises}
use Rattle.std.specs.Io.KnownBytes.{Appends}
use Rattle.std.specs.Result.{OnOk, OnErr}
use Rattle.std.specs.Borrow.{Bor}
use Rattle.dual_cert_text.specs.Spellings.{line_of_words, text_of_lines}
use Rattle.dual_cert_write.specs.Sending.{Sends, WasSent, words_of}
use Rattle.dual_cert_write.proofs.Joins.{words-more}
use Rattle.dual_cert_write.proofs.Lines.{text-more, text-nil}

-- nothing was sent
pub Sends-nil : {E : Type 0} (out : WriterState) (sent : Result (Unit {0}) E) → Sends out sent out sent []
Sends-nil out (Ok u) = record { whole = Appends-nil out.contents; failures = omega arith }
Sends-nil out (Err e) = (refl, refl)

-- a beginning of the first text is one of both
front_first : (old new : Option (List ℕ)) (xs ys : List ℕ) → AppendsFront old new xs → AppendsFront old new (xs ++ ys)
front_first old new xs ys front =
    elim (cases_lt front.0 (length xs)) [
      | inl within ↦ (front.0, rw (take-append-le front.0 xs ys (omega arith)) front.1)
      | inr past ↦ (length xs, rw (take-append-le (length xs) xs ys (omega arith), take_all (length xs) xs (omega arith)) (rw (take_all front.0 xs past) at front.1))
    ]

-- behind the whole of the first text, a beginning of the second one
front_second : (old mid new : Option (List ℕ)) (xs ys : List ℕ) → Appends old mid xs → AppendsFront mid new ys → AppendsFront old new (xs ++ ys)
front_second old mid new xs ys whole front =
    (length xs + front.0, rw (take-append-add xs ys front.0) (Appends-then old mid new xs (take front.0 ys) whole front.1))

-- a text behind another one that was sent whole
WasSent-then : {E : Type 0} (old mid new : WriterState) (sent : Result (Unit {0}) E) (xs ys : List ℕ) → WritesWhole old mid xs → WasSent mid new sent ys → WasSent old new sent (xs ++ ys)
WasSent-then old mid new (Ok u) xs ys first second =
    let before = first.failures in
    let behind = second.failures in
    record { whole = Appends-then old.contents mid.contents new.contents xs ys first.whole second.whole; failures = omega arith }
WasSent-then old mid new (Err e) xs ys first second =
    record {
      front = front_second old.contents mid.contents new.contents xs ys first.whole second.front;
      failures = ≤-Rises old.failures mid.failures new.failures first.failures second.failures;
    }

-- one sending behind another
pub Sends-then : {E : Type 0} (old mid new : WriterState) (before between sent : Result (Unit {0}) E) (xs ys : List ℕ) → Sends old before mid between xs → Sends mid between new sent ys → Sends old before new sent (xs ++ ys)
Sends-then old mid new (Err e) between sent xs ys first second =
    let S : Result (Unit {0}) _ → Type 0 = λ r. Sends mid r new sent ys in
    let after : Sends mid (Err e) new sent ys = subst S first.0 second in
    (after.0, after.1 ∙ first.1)
Sends-then old mid new (Ok u) (Ok v) sent xs ys first second = WasSent-then old mid new sent xs ys first second
Sends-then old mid new (Ok u) (Err e) sent xs ys first second =
    let S : Result (Unit {0}) _ → Type 0 = λ r. WasSent old new r (xs ++ ys) in
    let N : WriterState → Type 0 = λ w. WasSent old w (Err e) (xs ++ ys) in
    subst S (sym second.0) (subst N (sym second.1) (record { front = front_first old.contents mid.contents xs ys first.front; failures = first.failures }))

-- two sendings behind what was sent
pub Sends-twice : {E : Type 0} (old mid next new : WriterState) (before between after sent : Result (Unit {0}) E) (xs ys zs : List ℕ) → Sends old before mid between xs → Sends mid between next after ys → Sends next after new sent zs → Sends old before new sent ((xs ++ ys) ++ zs)
Sends-twice old mid next new before between after sent xs ys zs first second third =
    Sends-then old next new before after sent (xs ++ ys) zs (Sends-then old mid next before between after xs ys first second) third

-- a word more behind the first ones of some words
pub Sends-word : {E : Type 0} (old mid next new : WriterState) (before between after sent : Result (Unit {0}) E) (first : List ℕ) (more : List (Bor (List ℕ))) (i : ℕ) (d : Bor (List ℕ)) → i < length more → Sends old before mid between (line_of_words (words_of first (take i more))) → Sends mid between next after (32 ∷ []) → Sends next after new sent (get_or more i d).now → Sends old before new sent (line_of_words (words_of first (take (i + 1) more)))
Sends-word old mid next new before between after sent first more i d within so_far gap word =
    rw (words-more first more i d within) (Sends-twice old mid next new before between after sent _ _ _ so_far gap word)

-- a line more behind the first ones of some lines
pub Sends-line : {E A : Type 0} (old mid new : WriterState) (before between sent : Result (Unit {0}) E) (line_of : A → List ℕ) (xs : List A) (i : ℕ) (x : A) → i < length xs → x ≡ get_or xs i x → Sends old before mid between (text_of_lines (map line_of (take i xs))) → Sends mid between new sent (line_of x ++ 10 ∷ []) → Sends old before new sent (text_of_lines (map line_of (take (i + 1) xs)))
Sends-line old mid new before between sent line_of xs i x within here so_far line =
    let more = text-more line_of xs i x within ∙ ap (λ y. text_of_lines (map line_of (take i xs)) ++ (line_of y ++ 10 ∷ [])) (sym here) in
    rw more (Sends-then old mid new before between sent _ _ so_far line)

-- no line was sent
pub Sends-no_lines : {E : Type 0} (out : WriterState) (sent : Result (Unit {0}) E) → Sends out sent out sent (text_of_lines [])
Sends-no_lines out sent = rw text-nil (Sends-nil out sent)

-- what went out, by how a sending went
pub WasSent-whole : {E : Type 0} (old new : WriterState) (sent : Result (Unit {0}) E) (text : List ℕ) → WasSent old new sent text → OnOk sent (Appends old.contents new.contents text)
WasSent-whole old new (Ok u) text did = did.whole
WasSent-whole old new (Err e) text did = tt

pub WasSent-front : {E : Type 0} (old new : WriterState) (sent : Result (Unit {0}) E) (text : List ℕ) → WasSent old new sent text → OnErr sent (AppendsFront old.contents new.contents text)
WasSent-front old new (Ok u) text did = tt
WasSent-front old new (Err e) text did = did.front

pub WasSent-failed : {E : Type 0} (old new : WriterState) (sent : Result (Unit {0}) E) (text : List ℕ) → WasSent old new sent text → OnErr sent (Rises old.failures new.failures)
WasSent-failed old new (Ok u) text did = tt
WasSent-failed old new (Err e) text did = did.failures

-- what four sendings did, of which the first one is that of the whole
pub WasSent-four : {E : Type 0} (old one two three new : WriterState) (first second third sent : Result (Unit {0}) E) (ws xs ys zs : List ℕ) → Sends old (Ok tt) one first ws → Sends one first two second xs → Sends two second three third ys → Sends three third new sent zs → WasSent old new sent (((ws ++ xs) ++ ys) ++ zs)
WasSent-four old one two three new first second third sent ws xs ys zs a b c d =
    Sends-then old three new (Ok tt) third sent ((ws ++ xs) ++ ys) zs (Sends-twice old one two three (Ok tt) first second third ws xs ys a b c) d
