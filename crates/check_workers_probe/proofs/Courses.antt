-- How a probe goes on, one part after another.
use Rattle.std.proofs.Common.{◌≡◌, ◌<◌, ◌≤◌, ◌+◌, ◌-◌, ℕ, Bool, true, false, List, [], ◌++◌, Option, Some, None, Ok, subst, length, length-append, take, drop, refl, ap, sym, ◌∙◌, append_assoc, append-nil, arith}
use Rattle.std.proofs.lemmas.Grind.{common_steps}
use Rattle.std.proofs.lemmas.List.{length-take-le, take-append-drop, take_all}
use Rattle.std.proofs.Math.Seq.{take-append-add}
use Rattle.std.specs.Io.KnownBytes.{append_known, prepend_known}
use Rattle.http_relay_wire.specs.Wires.{Reading, tells_end}
use Rattle.http_relay_wire.proofs.KnownBytes.{append_twice, prepend_twice, prepend_nothing}
use Rattle.http_relay_wire.proofs.Rooms.{read_behind}
use borrow.Rule.Slice.PartMut.{put_mid}
use Rattle.http_relay_wire.specs.declared.fault.FaultCounts.{FaultCounts}
use Rattle.check_workers_probe.specs.Probes.{Course, GoesOn, Answers}

-- the first bytes, and some more of those behind them
pub take_sum : (xs : List ℕ) (n count : ℕ) → n ≤ length xs → take (n + count) xs ≡ take n xs ++ take count (drop n xs)
take_sum xs n count fits =
    let front = take n xs in
    let size : length front ≡ n = length-take-le n xs fits in
    ap (take (n + count)) (sym (take-append-drop n xs)) ∙ ap (λ m. take (m + count) (front ++ drop n xs)) (sym size) ∙ take-append-add front (drop n xs) count

-- nothing more is known
pub append_none : (known : Option (List ℕ)) → known ≡ append_known known []
append_none None = refl
append_none (Some xs) = ap Some (sym (append-nil xs))

-- how far a probe has come
abbrev pub course : Option (List ℕ) → List ℕ → List ℕ → Course
course request unsent came = record { request = request; unsent = unsent; came = came }

-- it sends a front of what was unsent
pub sends : (request : Option (List ℕ)) (came unsent front rest : List ℕ) (first last : Option (List ℕ)) (before after : Reading)
    → unsent ≡ front ++ rest → last ≡ append_known first front → after ≡ before
    → GoesOn (course request unsent came) (course request rest came) first last before after
sends request came unsent front rest first last before after parted written same = record {
  sent = front;
  text = [];
  request = refl;
  unsent = parted;
  written = written;
  came = sym (append-nil came);
  read = ap (λ (reading : Reading). reading.unread) (sym same) ∙ sym (prepend_nothing after.unread);
  in_turn = λ left. refl;
}

-- it reads, once all is sent
pub reads : (request : Option (List ℕ)) (unsent came text new : List ℕ) (first last : Option (List ℕ)) (before after : Reading)
    → unsent ≡ [] → last ≡ first → new ≡ came ++ text → before.unread ≡ prepend_known text after.unread
    → GoesOn (course request unsent came) (course request unsent new) first last before after
reads request unsent came text new first last before after none written more read = record {
  sent = [];
  text = text;
  request = refl;
  unsent = refl;
  written = written ∙ append_none first;
  came = more;
  read = read;
  in_turn = λ left. absurd (omega (arith, left, ap length none));
}

-- it does nothing
pub rests : (old : Course) (known : Option (List ℕ)) (reading : Reading) → GoesOn old old known known reading reading
rests old known reading = record {
  sent = [];
  text = [];
  request = refl;
  unsent = refl;
  written = append_none known;
  came = sym (append-nil old.came);
  read = sym (prepend_nothing reading.unread);
  in_turn = λ left. refl;
}

nothing_twice : (xs ys : List ℕ) → xs ≡ [] → ys ≡ [] → xs ++ ys ≡ []
nothing_twice xs ys x y = ap (λ zs. zs ++ ys) x ∙ y

-- two parts are one
pub goes_on_twice : (old between new : Course) (first second last : Option (List ℕ)) (before middle after : Reading)
    → GoesOn old between first second before middle → GoesOn between new second last middle after → GoesOn old new first last before after
goes_on_twice old between new first second last before middle after a b = record {
  sent = a.sent ++ b.sent;
  text = a.text ++ b.text;
  request = b.request ∙ a.request;
  unsent = a.unsent ∙ ap (λ rest. a.sent ++ rest) b.unsent ∙ sym (append_assoc a.sent b.sent new.unsent);
  written = b.written ∙ ap (λ known. append_known known b.sent) a.written ∙ append_twice first a.sent b.sent;
  came = b.came ∙ ap (λ came. came ++ b.text) a.came ∙ append_assoc old.came a.text b.text;
  read = a.read ∙ ap (prepend_known a.text) b.read ∙ prepend_twice after.unread a.text b.text;
  in_turn = λ left.
      let size = ap length b.unsent ∙ length-append b.sent new.unsent in
      let more : 0 < length between.unsent = omega (arith, left, size) in
      nothing_twice a.text b.text (a.in_turn more) (b.in_turn left);
}

-- a slice is its first bytes and the rest of it
pub cut : (line fields : List ℕ) (count : ℕ) → count ≤ length line
    → line ++ fields ≡ take count line ++ (take (length line - count) (drop count line) ++ fields)
cut line fields count fits =
    let size : length (drop count line) ≤ length line - count = grind (arith, common_steps, fits) in
    ap (λ xs. xs ++ fields) (sym (take-append-drop count line)) ∙ append_assoc (take count line) (drop count line) fields
    ∙ ap (λ xs. take count line ++ (xs ++ fields)) (sym (take_all (length line - count) (drop count line) size))

-- the same behind nothing
pub cut_behind : (part fields : List ℕ) (count : ℕ) → part ≡ [] → count ≤ length fields
    → part ++ fields ≡ take count fields ++ (part ++ take (length fields - count) (drop count fields))
cut_behind part fields count none fits =
    let size : length (drop count fields) ≤ length fields - count = grind (arith, common_steps, fits) in
    let rest = take (length fields - count) (drop count fields) in
    ap (λ xs. xs ++ fields) none ∙ sym (take-append-drop count fields)
    ∙ ap (λ xs. take count fields ++ xs) (sym (take_all (length fields - count) (drop count fields) size) ∙ ap (λ xs. xs ++ rest) (sym none))

-- nothing is left of a slice that went out whole
pub none_left : (line : List ℕ) (count : ℕ) → count ≡ length line → take (length line - count) (drop count line) ≡ []
none_left line count all = take_none (length line - count) (drop count line) (omega (arith, all))
  where
    take_none : (n : ℕ) (xs : List ℕ) → n ≡ 0 → take n xs ≡ []
    take_none n xs is = ap (λ m. take m xs) is

-- an answer doesn't look at the request
any_request : (answer : Option Bool) (request : Option (List ℕ)) (unsent came : List ℕ) (reading : Reading) (before after : FaultCounts)
    → Answers answer (course None unsent came) reading before after → Answers answer (course request unsent came) reading before after
any_request (Some true) request unsent came reading before after is = is
any_request (Some false) request unsent came reading before after is = is
any_request None request unsent came reading before after is = is

-- what reading says of a probe whose request is sent
pub answers_of : (answer : Option Bool) (request : Option (List ℕ)) (unsent came : List ℕ) (reading : Reading) (before after : FaultCounts)
    → unsent ≡ [] → Answers answer (course None [] came) reading before after → Answers answer (course request unsent came) reading before after
answers_of answer request unsent came reading before after none is =
    subst (λ (rest : List ℕ). Answers answer (course request rest came) reading before after) (sym none) (any_request answer request [] came reading before after is)

-- a read that gave nothing changed nothing in front
pub read_nothing : (room part : List ℕ) (filled size : ℕ) → filled ≤ length room → take filled (put_mid filled size room part) ≡ take filled room
read_nothing room part filled size fits =
    let plus : filled + 0 ≡ filled = omega arith in
    ap (λ n. take n (put_mid filled size room part)) (sym plus) ∙ read_behind room part filled size 0 fits (omega arith) ∙ append-nil (take filled room)

-- a read that had room and gave nothing tells the end
pub told_end : (count room : ℕ) → count ≡ 0 → 0 < room → tells_end (Ok count) room ≡ true
told_end count room zero some = grind (arith, common_steps, zero, some)
