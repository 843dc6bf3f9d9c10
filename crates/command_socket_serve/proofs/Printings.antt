-- Texts printed one behind another.
use Rattle.std.proofs.Common.{ℕ, inl, inr, Option, Result, Ok, Err, List, [], ◌++◌, length, refl, sym, ap, subst, ◌∙◌, arith, append_assoc}
use Rattle.std.proofs.lemmas.Bool.{cases_lt}
use Rattle.std.proofs.lemmas.List.{take-append-le, take_all}
use Rattle.std.specs.Io.KnownBytes.{Appends}
use Rattle.std.specs.Result.{OnOk, OnErr}
use Rattle.lb_types_counted.specs.Writers.{WriterState, AppendsFront, Rises}
use Rattle.lb_types_counted.proofs.Writes.{Appends-nil, Appends-then}
use Rattle.dual_cert_write.specs.Sending.{Sends}
use Rattle.command_socket_serve.specs.Outcomes.{FailsWithin, Prints, PrintsOn}

-- one piece, of which a beginning went out
fails_at_once : (old new : WriterState) (text : List ℕ) → Rises old.failures new.failures → AppendsFront old.contents new.contents text
    → FailsWithin old new text
fails_at_once old new text failed front = record {
  whole = [];
  left = text;
  middle = old;
  split = refl;
  went = Appends-nil old.contents;
  failed = failed;
  front = front;
}

-- one piece, by what its write tells
pub prints_piece : {E : Type 0} (old new : WriterState) (sent : Result (Unit {0}) E) (text : List ℕ)
    → OnOk sent (Appends old.contents new.contents text) → OnErr sent (Rises old.failures new.failures)
    → OnErr sent (AppendsFront old.contents new.contents text) → Prints old new sent text
prints_piece old new (Ok u) text whole failed front = whole
prints_piece old new (Err e) text whole failed front = fails_at_once old new text failed front

-- what a sending did
pub prints_sent : {E : Type 0} (old new : WriterState) (before sent : Result (Unit {0}) E) (text : List ℕ)
    → Sends old before new sent text → PrintsOn old before new sent text
prints_sent old new (Err e) sent text did = did
prints_sent old new (Ok u) (Ok v) text did = did.whole
prints_sent old new (Ok u) (Err e) text did = fails_at_once old new text did.failures did.front

-- nothing was printed
pub prints_none : {E : Type 0} (out : WriterState) (sent : Result (Unit {0}) E) → PrintsOn out sent out sent []
prints_none out (Ok u) = Appends-nil out.contents
prints_none out (Err e) = (refl, refl)

-- a beginning of the first text is one of both
front_first : (old new : Option (List ℕ)) (xs ys : List ℕ) → AppendsFront old new xs → AppendsFront old new (xs ++ ys)
front_first old new xs ys front =
    elim (cases_lt front.0 (length xs)) [
      | inl within ↦ (front.0, rw (take-append-le front.0 xs ys (omega arith)) front.1)
      | inr past ↦ (length xs, rw (take-append-le (length xs) xs ys (omega arith), take_all (length xs) xs (omega arith)) (rw (take_all front.0 xs past) at front.1))
    ]

-- a failure within the first text is one within both
fails_first : (old new : WriterState) (xs ys : List ℕ) → FailsWithin old new xs → FailsWithin old new (xs ++ ys)
fails_first old new xs ys fails = record {
  whole = fails.whole;
  left = fails.left ++ ys;
  middle = fails.middle;
  split = ap (λ t. t ++ ys) fails.split ∙ append_assoc fails.whole fails.left ys;
  went = fails.went;
  failed = fails.failed;
  front = front_first fails.middle.contents new.contents fails.left ys fails.front;
}

-- and so is one within the second text
fails_second : (old mid new : WriterState) (xs ys : List ℕ) → Appends old.contents mid.contents xs → FailsWithin mid new ys
    → FailsWithin old new (xs ++ ys)
fails_second old mid new xs ys whole fails = record {
  whole = xs ++ fails.whole;
  left = fails.left;
  middle = fails.middle;
  split = ap (λ t. xs ++ t) fails.split ∙ sym (append_assoc xs fails.whole fails.left);
  went = Appends-then old.contents mid.contents fails.middle.contents xs fails.whole whole fails.went;
  failed = fails.failed;
  front = fails.front;
}

-- one text behind another
pub prints_then : {E : Type 0} (old mid new : WriterState) (before between sent : Result (Unit {0}) E) (xs ys : List ℕ)
    → PrintsOn old before mid between xs → PrintsOn mid between new sent ys → PrintsOn old before new sent (xs ++ ys)
prints_then old mid new (Err e) between sent xs ys first second =
    let P : Result (Unit {0}) _ → Type 0 = λ r. PrintsOn mid r new sent ys in
    let after : PrintsOn mid (Err e) new sent ys = subst P first.0 second in
    (after.0, after.1 ∙ first.1)
prints_then old mid new (Ok u) (Ok v) (Ok w) xs ys first second =
    Appends-then old.contents mid.contents new.contents xs ys first second
prints_then old mid new (Ok u) (Ok v) (Err e) xs ys first second = fails_second old mid new xs ys first second
prints_then old mid new (Ok u) (Err e) sent xs ys first second =
    let P : Result (Unit {0}) _ → Type 0 = λ r. Prints old new r (xs ++ ys) in
    let N : WriterState → Type 0 = λ w. Prints old w (Err e) (xs ++ ys) in
    subst P (sym second.0) (subst N (sym second.1) (fails_first old mid xs ys first))
