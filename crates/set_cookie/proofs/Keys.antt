-- What the head of an answer, whole or not, says of the key that the answer teaches.
use Rattle.std.proofs.Common.{◌≡◌, ℕ, ◌<◌, ◌≤◌, Bool, true, false, ◌&&◌, nat_lt, Option, Some, None, List, length, take, refl, sym, subst, ap, ◌∙◌, arith}
use Rattle.std.specs.Option.{is_none, option_and_then}
use Rattle.std.proofs.lemmas.Bool.{and_parts}
use Rattle.std.proofs.lemmas.Bool.Decides.{nat_tests}
use Rattle.std.proofs.lemmas.List.{take_all}
use Rattle.pin_set.specs.declared.pin_key.PinKey.{PinKey}
use Rattle.lb_acl.specs.Keys.{IsKeyFrom}
use Rattle.lb_acl.specs.declared.key.KeySample.{KeySample}
use Rattle.lb_acl.specs.declared.key.KeySample.TheVariants as Of
use Rattle.lb_acl.specs.declared.key.StickOn.{StickOn}
use Rattle.set_cookie.specs.declared.answer.TheConstants.{MOST_BYTES}
use Rattle.set_cookie.specs.declared.key.TaughtKey.TheVariants.{Unfinished, Nothing, Key}
use Rattle.set_cookie.specs.Answers.{is_unfinished, may_be_answer, taught, taught_by}
use Rattle.set_cookie.specs.Lines.{final_head}
use Rattle.set_cookie.specs.Scans.{text_by}
use Rattle.set_cookie.specs.TaughtKeys.{IsTaught, IsTaughtKey, taught_text}

-- ---- whether more bytes may teach something

abbrev may_go_on : List ℕ → Bool
may_go_on answer = nat_lt (length answer) MOST_BYTES && may_be_answer answer

-- all bytes are looked at
all_seen : (answer : List ℕ) → nat_lt (length answer) MOST_BYTES ≡ true → take MOST_BYTES answer ≡ answer
all_seen answer small = take_all MOST_BYTES answer (grind (arith, nat_tests, small))

pub goes_on : (answer : List ℕ) → may_go_on answer ≡ true → final_head (take MOST_BYTES answer) ≡ None → is_unfinished answer ≡ true
unfolding is_unfinished
goes_on answer may none =
    let small = (and_parts (nat_lt (length answer) MOST_BYTES) (may_be_answer answer) may).0 in
    let here : is_none (final_head answer) ≡ true = ap (λ bs. is_none (final_head bs)) (sym (all_seen answer small)) ∙ ap is_none none in
    ap (λ b. b && is_none (final_head answer)) may ∙ here

pub is_over : (answer : List ℕ) → may_go_on answer ≡ false → is_unfinished answer ≡ false
unfolding is_unfinished
is_over answer isnt = ap (λ b. b && is_none (final_head answer)) isnt

nothing_more : (b c d : Bool) → (b ≡ true → d ≡ false) → (b && c && d) ≡ false
nothing_more false c d whole = refl
nothing_more true false d whole = refl
nothing_more true true d whole = whole refl

pub is_whole : (answer : List ℕ) (head : List (List ℕ)) → final_head (take MOST_BYTES answer) ≡ Some head → is_unfinished answer ≡ false
unfolding is_unfinished
is_whole answer head is = nothing_more (nat_lt (length answer) MOST_BYTES) (may_be_answer answer) (is_none (final_head answer))
    (λ small. ap (λ bs. is_none (final_head bs)) (sym (all_seen answer small)) ∙ ap is_none is)

-- ---- what is taught

text_of : (sample : KeySample) (answer : List ℕ) (head : List (List ℕ)) → final_head (take MOST_BYTES answer) ≡ Some head → taught_text sample answer ≡ text_by sample head
unfolding taught
text_of Of.Source answer head is = refl
text_of (Of.Field name) answer head is = refl
text_of (Of.Cookie name) answer head is = ap (option_and_then (taught_by name)) is

no_text : (sample : KeySample) (answer : List ℕ) → final_head (take MOST_BYTES answer) ≡ None → taught_text sample answer ≡ None
unfolding taught
no_text Of.Source answer none = refl
no_text (Of.Field name) answer none = refl
no_text (Of.Cookie name) answer none = ap (option_and_then (taught_by name)) none

key_of_head : (pattern : StickOn) (answer : List ℕ) (head : List (List ℕ)) (key : Option PinKey) → final_head (take MOST_BYTES answer) ≡ Some head
    → IsKeyFrom pattern.table (text_by pattern.sample head) key → IsTaughtKey pattern answer key
key_of_head pattern answer head key is from =
    subst (λ text. IsKeyFrom pattern.table text key) (sym (text_of pattern.sample answer head is)) from

pub teaches_key : (pattern : StickOn) (answer : List ℕ) (head : List (List ℕ)) (key : PinKey) → final_head (take MOST_BYTES answer) ≡ Some head
    → IsKeyFrom pattern.table (text_by pattern.sample head) (Some key) → IsTaught pattern answer (Key key)
teaches_key pattern answer head key is from = (is_whole answer head is, key_of_head pattern answer head (Some key) is from)

pub teaches_no_key : (pattern : StickOn) (answer : List ℕ) (head : List (List ℕ)) → final_head (take MOST_BYTES answer) ≡ Some head
    → IsKeyFrom pattern.table (text_by pattern.sample head) None → IsTaught pattern answer Nothing
teaches_no_key pattern answer head is from = (is_whole answer head is, key_of_head pattern answer head None is from)

pub teaches_nothing_more : (pattern : StickOn) (answer : List ℕ) → final_head (take MOST_BYTES answer) ≡ None → may_go_on answer ≡ false
    → IsTaught pattern answer Nothing
teaches_nothing_more pattern answer none isnt =
    (is_over answer isnt, subst (λ text. IsKeyFrom pattern.table text None) (sym (no_text pattern.sample answer none)) refl)
