-- What is taught stays so, whatever follows.
use Rattle.std.proofs.Common.{◌≡◌, ℕ, zero, suc, ◌-◌, ◌<◌, ◌≤◌, Bool, true, false, not, eqb, cond, ◌&&◌, ◌⊎◌, inl, inr, nat_lt, nat_eq, Option, Some, None, List, [], ◌∷◌, ◌++◌, length, get_or, take, map, codes, refl, sym, ap, ◌∙◌, arith}
use Rattle.std.specs.List.{list_any, list_all, slice_split, onto_first, find, ends_with, starts_with, before_first, position_or_len, slice_index_or}
use Rattle.std.specs.Char.{is_ascii_digit}
use Rattle.std.specs.Option.{is_none, option_and_then}
use Rattle.std.proofs.lemmas.Bool.{false≢true}
use Rattle.std.proofs.lemmas.Bool.Decides.{nat_tests}
use Rattle.std.proofs.lemmas.Grind.{common_steps}
use Rattle.std.proofs.lemmas.List.{map-append, length-take, length-append, take-take, take_all, take-append-le}
use Rattle.std.proofs.lemmas.List.Splits.{slice_split-cons_yes, slice_split-cons_no, length-slice_split}
use Rattle.std.proofs.lemmas.Slice.Eq.{bytes_eq-Decides}
use Rattle.lb_types_text.specs.Parts.{parts}
use Rattle.set_cookie.specs.declared.answer.TheConstants.{MOST_BYTES}
use Rattle.set_cookie.specs.Answers.{is_unfinished, may_be_answer, taught, taught_by}
use Rattle.set_cookie.specs.Lines.{ended, line_text, lines_of, is_empty, heads, first_line, final_head}
use Rattle.set_cookie.specs.Scans.{head_of}
use Rattle.set_cookie.specs.StatusLines.{code_of, ends_code, has_version, is_interim, is_status_line}
use Rattle.set_cookie.proofs.Firsts.{before_yes, before_no}
use Rattle.set_cookie.proofs.FinalHeads.{ended_cons, final_here, final_none}

module _ {X : Type 0} where
  some_more : (xs ys : List X) → 0 < length ys → 0 < length (xs ++ ys)
  some_more [] ys some = some
  some_more (x ∷ xs) ys some = grind arith

  ended-append : (xs ys : List X) → 0 < length ys → ended (xs ++ ys) ≡ xs ++ ended ys
  ended-append [] ys some = refl
  ended-append (x ∷ xs) ys some = ended_cons x (xs ++ ys) (some_more xs ys some) ∙ ap (λ l. x ∷ l) (ended-append xs ys some)

module _ {X : Type 0} (p : X → Bool) where
  some_part : (xs : List X) → 0 < length (slice_split p xs)
  some_part xs = omega (arith, length-slice_split p xs)

  -- the parts that have ended stay, whatever follows
  record Longer (xs ys : List X) : Type 0 where
    later : List (List X)
    some : 0 < length later
    whole : slice_split p (xs ++ ys) ≡ ended (slice_split p xs) ++ later

  record Onto (x : X) (all parts : List (List X)) : Type 0 where
    later : List (List X)
    some : 0 < length later
    whole : onto_first x all ≡ ended (onto_first x parts) ++ later

  onto_some : (x : X) (all : List (List X)) → 0 < length all → 0 < length (onto_first x all)
  onto_some x [] some = absurd (omega (arith, some))
  onto_some x (part ∷ more) some = grind arith

  onto : (x : X) (all parts later : List (List X)) → 0 < length all → 0 < length parts → 0 < length later → all ≡ ended parts ++ later → Onto x all parts
  onto x all [] later full some more whole = absurd (omega (arith, some))
  onto x all (part ∷ []) later full some more whole = record { later = onto_first x all; some = onto_some x all full; whole = refl }
  onto x all (part ∷ next ∷ parts) later full some more whole = record { later = later; some = more; whole = ap (onto_first x) (whole ∙ ap (λ l. l ++ later) (ended_cons part (next ∷ parts) (omega arith))) ∙ ap (λ l. l ++ later) (sym (ended_cons (x ∷ part) (next ∷ parts) (omega arith))) }

  longer : (xs ys : List X) → Longer xs ys
  longer [] ys = record { later = slice_split p ys; some = some_part ys; whole = refl }
  longer (x ∷ xs) ys = by (p x) refl (longer xs ys)
    where
      by : (b : Bool) → p x ≡ b → Longer xs ys → Longer (x ∷ xs) ys
      by true e rest = record {
        later = rest.later;
        some = rest.some;
        whole = slice_split-cons_yes p x (xs ++ ys) e ∙ ap (λ l. [] ∷ l) rest.whole
            ∙ ap (λ l. l ++ rest.later) (sym (ended_cons [] (slice_split p xs) (some_part xs))) ∙ ap (λ l. ended l ++ rest.later) (sym (slice_split-cons_yes p x xs e));
      }
      by false e rest =
          let next = onto x (slice_split p (xs ++ ys)) (slice_split p xs) rest.later (some_part (xs ++ ys)) (some_part xs) rest.some rest.whole in
          record {
            later = next.later;
            some = next.some;
            whole = slice_split-cons_no p x (xs ++ ys) e ∙ next.whole ∙ ap (λ l. ended l ++ next.later) (sym (slice_split-cons_no p x xs e));
          }

  -- so what has ended is a front of what has ended later
  record Front (xs ys : List X) : Type 0 where
    more : List (List X)
    whole : ended (slice_split p (xs ++ ys)) ≡ ended (slice_split p xs) ++ more

  front : (xs ys : List X) → Front xs ys
  front xs ys =
      let rest = longer xs ys in
      record { more = ended rest.later; whole = ap ended rest.whole ∙ ended-append (ended (slice_split p xs)) rest.later rest.some }

record MoreLines (bytes more : List ℕ) : Type 0 where
  lines : List (List ℕ)
  whole : lines_of (bytes ++ more) ≡ lines_of bytes ++ lines

more_lines : (bytes more : List ℕ) → MoreLines bytes more
unfolding lines_of
more_lines bytes more =
    let rest = front (λ b. eqb b 10) bytes more in
    record { lines = map line_text rest.more; whole = ap (map line_text) rest.whole ∙ map-append line_text (ended (parts 10 bytes)) rest.more }

find_front : {X : Type 0} (q : X → Bool) (xs ys : List X) (x : X) → find q xs ≡ Some x → find q (xs ++ ys) ≡ Some x
find_front q [] ys x found = absurd cc
find_front {X} q (y ∷ xs) ys x found = by (q y) refl (λ later. find_front q xs ys x later)
  where
    by : (b : Bool) → q y ≡ b → (find q xs ≡ Some x → find q (xs ++ ys) ≡ Some x) → find q (y ∷ (xs ++ ys)) ≡ Some x
    by true e more = rw e (sym (ap (λ b. cond b (Some y) (find q xs)) e) ∙ found)
    by false e more = rw e (more (sym (ap (λ b. cond b (Some y) (find q xs)) e) ∙ found))

-- a final head stays
pub final_stays : (bytes more : List ℕ) (head : List (List ℕ)) → final_head bytes ≡ Some head → final_head (bytes ++ more) ≡ Some head
unfolding final_head heads
final_stays bytes more head found =
    let lines = more_lines bytes more in
    let rest = front is_empty (lines_of bytes) lines.lines in
    ap (λ ls. find (λ h. not (is_interim (first_line h))) (ended (slice_split is_empty ls))) lines.whole
    ∙ ap (find (λ h. not (is_interim (first_line h)))) rest.whole
    ∙ find_front (λ h. not (is_interim (first_line h))) (ended (slice_split is_empty (lines_of bytes))) rest.more head found

-- the first part is what stands before the first mark
record First (p : ℕ → Bool) (bytes : List ℕ) : Type 0 where
  more : List (List ℕ)
  whole : slice_split p bytes ≡ before_first p bytes ∷ more

first_part : (p : ℕ → Bool) (bytes : List ℕ) → First p bytes
first_part p [] = record { more = []; whole = refl }
first_part p (x ∷ xs) = by (p x) refl (first_part p xs)
  where
    by : (b : Bool) → p x ≡ b → First p xs → First p (x ∷ xs)
    by true e rest = record { more = slice_split p xs; whole = slice_split-cons_yes p x xs e ∙ ap (λ h. h ∷ slice_split p xs) (sym (before_yes p x xs e)) }
    by false e rest = record { more = rest.more; whole = slice_split-cons_no p x xs e ∙ ap (onto_first x) rest.whole ∙ ap (λ h. h ∷ rest.more) (sym (before_no p x xs e)) }

abbrev start : List ℕ
start = codes "HTTP/1."

-- a front of seven bytes is one of what it was taken from
front_of : (n : ℕ) (bytes : List ℕ) → take 7 (take n bytes) ≡ start → take 7 bytes ≡ start
front_of n bytes same =
    let size : length (take 7 (take n bytes)) ≡ 7 = ap length same in
    let within : 7 ≤ n = omega (arith, size, length-take 7 (take n bytes), length-take n bytes) in
    sym (take-take 7 n bytes within) ∙ same

line_front : (line : List ℕ) → take 7 (line_text line) ≡ start → take 7 line ≡ start
line_front line same = by (ends_with nat_eq line (13 ∷ [])) refl
  where
    by : (b : Bool) → ends_with nat_eq line (13 ∷ []) ≡ b → take 7 line ≡ start
    by true e =
        let text : line_text line ≡ take (length line - 1) line = rw e refl in
        front_of (length line - 1) line (sym (ap (take 7) text) ∙ same)
    by false e =
        let text : line_text line ≡ line = rw e refl in
        sym (ap (take 7) text) ∙ same

lines_begin : (found more : List (List ℕ)) (bytes : List ℕ) → found ≡ bytes ∷ more → take 7 (first_line (map line_text (ended found))) ≡ start → take 7 bytes ≡ start
lines_begin [] more bytes is same = absurd (omega (arith, ap length is))
lines_begin (x ∷ []) more bytes is same = absurd (omega (arith, ap length same))
lines_begin (x ∷ y ∷ ys) more bytes is same =
    let here : x ≡ bytes = ap (λ l. slice_index_or l 0 []) is in
    let first : first_line (map line_text (ended (x ∷ y ∷ ys))) ≡ line_text x = ap (λ l. first_line (map line_text l)) (ended_cons x (y ∷ ys) (omega arith)) in
    sym (ap (take 7) here) ∙ line_front x (sym (ap (take 7) first) ∙ same)

-- bytes whose first line is a status line begin as an answer
begins : (bytes : List ℕ) → take 7 (first_line (lines_of bytes)) ≡ start → take 7 bytes ≡ start
unfolding lines_of
begins bytes same =
    let first = first_part (λ b. eqb b 10) bytes in
    front_of (position_or_len (λ b. eqb b 10) bytes) bytes (lines_begin (parts 10 bytes) first.more (before_first (λ b. eqb b 10) bytes) first.whole same)

and_left : (b c : Bool) → (b && c) ≡ true → b ≡ true
and_left true c both = refl
and_left false c both = absurd (false≢true both)

status_begins : (line : List ℕ) → is_status_line line ≡ true → take 7 line ≡ start
unfolding is_status_line
status_begins line is =
    let size = length (code_of line) in
    let digits = list_all is_ascii_digit (code_of line) in
    let version : has_version line ≡ true = and_left (has_version line) (eqb size 3) (and_left (has_version line && eqb size 3) digits (and_left (has_version line && eqb size 3 && digits) (ends_code line) is)) in
    let name = starts_with nat_eq line start in
    let digit = is_ascii_digit (get_or line 7 0) in
    let version : name ≡ true = and_left name digit (and_left (name && digit) (eqb (get_or line 8 0) 32) version) in
    sym ((bytes_eq-Decides start (take 7 line)).0 version)

-- without a status line at the front nothing is taught
bad_front : (bytes status : List ℕ) (more : List (List ℕ)) → lines_of bytes ≡ status ∷ more → list_any is_empty (lines_of bytes) ≡ true → is_status_line status ≡ false → final_head bytes ≡ Some (head_of (lines_of bytes))
unfolding is_interim
bad_front bytes status more lines any bad =
    let final : is_interim status ≡ false = rw bad refl in
    final_here bytes status more lines any final

pub bad_head : (name status : List ℕ) (more : List (List ℕ)) → is_status_line status ≡ false → taught_by name (head_of (status ∷ more)) ≡ None
bad_head name [] more bad = refl
bad_head name (b ∷ bs) more bad = let full : is_empty (b ∷ bs) ≡ false = grind (arith, nat_tests) in ap (taught_by name) (before_no is_empty (b ∷ bs) more full) ∙ rw bad refl

bad_lines : (name bytes : List ℕ) (lines : List (List ℕ)) → lines_of bytes ≡ lines → is_status_line (first_line lines) ≡ false → (b : Bool) → list_any is_empty lines ≡ b → option_and_then (taught_by name) (final_head bytes) ≡ None
bad_lines name bytes lines is bad false none = ap (option_and_then (taught_by name)) (final_none bytes (ap (list_any is_empty) is ∙ none))
bad_lines name bytes [] is bad true any = absurd (false≢true any)
bad_lines name bytes (status ∷ more) is bad true any =
    ap (option_and_then (taught_by name)) (bad_front bytes status more is (ap (list_any is_empty) is ∙ any) bad ∙ ap (λ ls. Some (head_of ls)) is)
    ∙ bad_head name status more bad

pub teaches_nothing : (name bytes : List ℕ) → is_status_line (first_line (lines_of bytes)) ≡ false → option_and_then (taught_by name) (final_head bytes) ≡ None
teaches_nothing name bytes bad = bad_lines name bytes (lines_of bytes) refl bad (list_any is_empty (lines_of bytes)) refl

-- a front of an answer is one too
may_front : (answer more : List ℕ) → take 7 (answer ++ more) ≡ take (length (answer ++ more)) start → may_be_answer answer ≡ true
may_front answer more same =
    let cut : take (length answer) (take 7 (answer ++ more)) ≡ take (length answer) (take (length (answer ++ more)) start) = ap (take (length answer)) same in
    let left : take (length answer) (take 7 (answer ++ more)) ≡ take 7 answer = grind (arith, common_steps) in
    let right : take (length answer) (take (length (answer ++ more)) start) ≡ take (length answer) start = take-take (length answer) (length (answer ++ more)) start (omega (arith, length-append answer more)) in
    (bytes_eq-Decides (take 7 answer) (take (length answer) start)).1 (sym left ∙ cut ∙ right)

may_longer : (answer more : List ℕ) → may_be_answer answer ≡ false → may_be_answer (answer ++ more) ≡ false
may_longer answer more isnt = by (may_be_answer (answer ++ more)) refl
  where
    by : (b : Bool) → may_be_answer (answer ++ more) ≡ b → may_be_answer (answer ++ more) ≡ false
    by false e = e
    by true e =
        let holds = may_front answer more ((bytes_eq-Decides (take 7 (answer ++ more)) (take (length (answer ++ more)) start)).0 e) in
        absurd (false≢true (sym isnt ∙ holds))

not_answer : (bytes : List ℕ) → may_be_answer bytes ≡ false → is_status_line (first_line (lines_of bytes)) ≡ false
not_answer bytes isnt = by (is_status_line (first_line (lines_of bytes))) refl
  where
    by : (b : Bool) → is_status_line (first_line (lines_of bytes)) ≡ b → is_status_line (first_line (lines_of bytes)) ≡ false
    by false e = e
    by true e =
        let seven : take 7 bytes ≡ start = begins bytes (status_begins (first_line (lines_of bytes)) e) in
        let size : 7 ≤ length bytes = omega (arith, ap length seven, length-take 7 bytes) in
        let all : take (length bytes) start ≡ start = take_all (length bytes) start size in
        let holds : may_be_answer bytes ≡ true = (bytes_eq-Decides (take 7 bytes) (take (length bytes) start)).1 (seven ∙ sym all) in
        absurd (false≢true (sym isnt ∙ holds))

-- why no more bytes are needed
abbrev Why : List ℕ → Type 0
Why answer =
    (MOST_BYTES ≤ length answer) ⊎ ((may_be_answer answer ≡ false) × (length answer < MOST_BYTES))
    ⊎ ((head : List (List ℕ)) × (final_head answer ≡ Some head) × (length answer < MOST_BYTES))

why : (answer : List ℕ) → is_unfinished answer ≡ false → Why answer
unfolding is_unfinished
why answer isnt = by_size (nat_lt (length answer) MOST_BYTES) refl
  where
    by_head : (o : Option (List (List ℕ))) → final_head answer ≡ o → may_be_answer answer ≡ true → length answer < MOST_BYTES → Why answer
    by_head (Some head) is may small = inr (inr (head, is, small))
    by_head None is may small =
        let size : nat_lt (length answer) MOST_BYTES ≡ true = grind (arith, nat_tests) in
        let holds : (nat_lt (length answer) MOST_BYTES && may_be_answer answer && is_none (final_head answer)) ≡ true = rw (size, may, is) refl in
        absurd (false≢true (sym isnt ∙ holds))

    by_may : (b : Bool) → may_be_answer answer ≡ b → length answer < MOST_BYTES → Why answer
    by_may false e small = inr (inl (e, small))
    by_may true e small = by_head (final_head answer) refl e small

    by_size : (b : Bool) → nat_lt (length answer) MOST_BYTES ≡ b → Why answer
    by_size false e = inl (grind (arith, nat_tests))
    by_size true e = by_may (may_be_answer answer) refl (grind (arith, nat_tests))

take-longer : (n : ℕ) (xs ys : List ℕ) → length xs ≤ n → take n (xs ++ ys) ≡ xs ++ take (n - length xs) ys
take-longer n [] ys within = let size : n ≡ n - length {A = ℕ} [] = omega arith in ap (λ m. take m ys) size
take-longer zero (x ∷ xs) ys within = absurd (omega (arith, within))
take-longer (suc n) (x ∷ xs) ys within = let size : n - length xs ≡ suc n - length (x ∷ xs) = omega arith in
    ap (λ l. x ∷ l) (take-longer n xs ys (omega (arith, within))) ∙ ap (λ m. x ∷ (xs ++ take m ys)) size

small_front : (answer more : List ℕ) → length answer < MOST_BYTES → take MOST_BYTES (answer ++ more) ≡ answer ++ take (MOST_BYTES - length answer) more
small_front answer more small = take-longer MOST_BYTES answer more (omega (arith, small))

pub settled : (answer more name : List ℕ) → is_unfinished answer ≡ false → taught (answer ++ more) name ≡ taught answer name
unfolding taught
settled answer more name isnt = by (why answer isnt)
  where
    by : Why answer → option_and_then (taught_by name) (final_head (take MOST_BYTES (answer ++ more))) ≡ option_and_then (taught_by name) (final_head (take MOST_BYTES answer))
    by (inl full) = ap (λ bs. option_and_then (taught_by name) (final_head bs)) (take-append-le MOST_BYTES answer more full)
    by (inr (inl (other, small))) =
        let rest = take (MOST_BYTES - length answer) more in
        let front = small_front answer more small in
        let whole = take_all MOST_BYTES answer (omega (arith, small)) in
        ap (λ bs. option_and_then (taught_by name) (final_head bs)) front
        ∙ teaches_nothing name (answer ++ rest) (not_answer (answer ++ rest) (may_longer answer rest other))
        ∙ sym (ap (λ bs. option_and_then (taught_by name) (final_head bs)) whole ∙ teaches_nothing name answer (not_answer answer other))
    by (inr (inr (head, is, small))) =
        let rest = take (MOST_BYTES - length answer) more in
        let front = small_front answer more small in
        let whole = take_all MOST_BYTES answer (omega (arith, small)) in
        ap (λ bs. option_and_then (taught_by name) (final_head bs)) front ∙ ap (option_and_then (taught_by name)) (final_stays answer rest head is)
        ∙ sym (ap (λ bs. option_and_then (taught_by name) (final_head bs)) whole ∙ ap (option_and_then (taught_by name)) is)

finished_by : (b c d : Bool) → (b ≡ false) ⊎ (c ≡ false) ⊎ (d ≡ false) → (b && c && d) ≡ false
finished_by false c d isnt = refl
finished_by true false d isnt = refl
finished_by true true false isnt = refl
finished_by true true true (inl isnt) = isnt
finished_by true true true (inr (inl isnt)) = isnt
finished_by true true true (inr (inr isnt)) = isnt

pub stays_settled : (answer more : List ℕ) → is_unfinished answer ≡ false → is_unfinished (answer ++ more) ≡ false
unfolding is_unfinished
stays_settled answer more isnt = finished_by (nat_lt (length (answer ++ more)) MOST_BYTES) (may_be_answer (answer ++ more)) (is_none (final_head (answer ++ more))) (by (why answer isnt))
  where
    by : Why answer → (nat_lt (length (answer ++ more)) MOST_BYTES ≡ false) ⊎ (may_be_answer (answer ++ more) ≡ false) ⊎ (is_none (final_head (answer ++ more)) ≡ false)
    by (inl full) = let longer = length-append answer more in inl (grind (arith, nat_tests))
    by (inr (inl (other, small))) = inr (inl (may_longer answer more other))
    by (inr (inr (head, is, small))) = inr (inr (ap is_none (final_stays answer more head is)))

all_three : (b c d : Bool) → (b && c && d) ≡ true → (b ≡ true) × (d ≡ true)
all_three true true d holds = (refl, holds)
all_three true false d holds = absurd (false≢true holds)
all_three false c d holds = absurd (false≢true holds)

nothing_found : (name : List ℕ) (o : Option (List (List ℕ))) → is_none o ≡ true → option_and_then (taught_by name) o ≡ None
nothing_found name None is = refl
nothing_found name (Some head) is = absurd (false≢true is)

pub teaches_nothing_yet : (answer name : List ℕ) → is_unfinished answer ≡ true → taught answer name ≡ None
unfolding is_unfinished taught
teaches_nothing_yet answer name holds =
    let two = all_three (nat_lt (length answer) MOST_BYTES) (may_be_answer answer) (is_none (final_head answer)) holds in
    let small : length answer ≤ MOST_BYTES = grind (arith, nat_tests, two.0) in
    ap (λ bs. option_and_then (taught_by name) (final_head bs)) (take_all MOST_BYTES answer small) ∙ nothing_found name (final_head answer) two.1
