-- What lines say, one after another.
use Rattle.std.proofs.Common.{◌≡◌, ℕ, suc, ◌+◌, ◌≤◌, Bool, true, false, not, cond, eqb, ltb, is_none, Option, Some, None, option_map, List, [], ◌∷◌, ◌++◌, length, position, Result, Ok, Err, refl, sym, ap, ◌∙◌, add-zero, append-nil, append_assoc, arith}
use Rattle.std.specs.List.{cons_option, filter_map, position_or_len}
use Rattle.std.specs.Option.{option_flatten, option_map_or, option_to_list}
use Rattle.std.proofs.Common.{⊎_elim}
use Rattle.std.proofs.lemmas.Bool.{cases_lt, cond-true, lt-ltb, le-ltb}
use Rattle.std.proofs.lemmas.List.Splits.{length-slice_split}
use Rattle.std.proofs.lemmas.List.Sums.{count_by-le-length}
use Rattle.lb_types_text.specs.Parts.{parts}
use Rattle.haproxy_admin.specs.declared.fault.ReadError.{ReadError}
use Rattle.haproxy_admin.specs.declared.fault.ReadError.TheVariants.{Memory, Line}
use Rattle.haproxy_admin.specs.Faults.{Fails}
use Rattle.haproxy_admin.specs.Lines.{said_from, with_said}

-- ---- the first place that passes

below_more : (k n : ℕ) → ltb (1 + k) (suc n) ≡ ltb k n
below_more k n =
    ⊎_elim (λ h. lt-ltb (1 + k) (suc n) (omega (arith, h)) ∙ sym (lt-ltb k n h)) (λ h. le-ltb (1 + k) (suc n) (omega (arith, h)) ∙ sym (le-ltb k n h)) (cases_lt k n)

found_more : (b : Bool) (k : ℕ) → cond b (Some (1 + k)) None ≡ option_map (λ (i : ℕ). i + 1) (cond b (Some k) None)
found_more true k = ap (λ (j : ℕ). Some j) (omega arith)
found_more false k = refl

place_more : (b : Bool) (k n : ℕ) → cond (ltb (cond (not b) (1 + k) 0) (suc n)) (Some (cond (not b) (1 + k) 0)) None ≡ cond b (Some 0) (option_map (λ (i : ℕ). i + 1) (cond (ltb k n) (Some k) None))
place_more true k n = cond-true (ltb 0 (suc n)) (Some 0) None (lt-ltb 0 (suc n) (omega arith))
place_more false k n = ap (λ (t : Bool). cond t (Some (1 + k)) None) (below_more k n) ∙ found_more (ltb k n) k

pub position_more : {X : Type 0} (p : X → Bool) (x : X) (xs : List X) → position p (x ∷ xs) ≡ cond (p x) (Some 0) (option_map (λ (i : ℕ). i + 1) (position p xs))
position_more p x xs = place_more (p x) (position_or_len p xs) (length xs)

-- ---- a line before others

-- these values before the ones that are read
abbrev pub after : {X : Type 0} → List X → Result (List X) ℕ → Result (List X) ℕ
after values (Ok more) = Ok (values ++ more)
after values (Err n) = Err n

pub after_nothing : {X : Type 0} (read : Result (List X) ℕ) → after [] read ≡ read
after_nothing (Ok more) = refl
after_nothing (Err n) = refl

-- what a line says, before what the others do
abbrev said_then : {X : Type 0} → ℕ → Option (Option X) → Result (List X) ℕ → Result (List X) ℕ
said_then n None read = Err n
said_then n (Some value) read = after (option_to_list value) read

joined : {X : Type 0} (n : ℕ) (value : Option (Option X)) (place : Option ℕ) (values : List X)
    → option_map_or (λ i. Err (n + i)) (cond (is_none value) (Some 0) (option_map (λ (i : ℕ). i + 1) place)) (Ok (cons_option (option_flatten value) values))
    ≡ said_then n value (option_map_or (λ i. Err ((n + 1) + i)) place (Ok values))
joined n None place values = ap (λ (m : ℕ). Err m) (add-zero n)
joined n (Some None) None values = refl
joined n (Some (Some value)) None values = refl
joined n (Some value) (Some i) values = ap (λ (m : ℕ). Err m) (omega arith)

said_more : {X : Type 0} (said : List ℕ → Option (Option X)) (n : ℕ) (line : List ℕ) (lines : List (List ℕ)) → said_from said n (line ∷ lines) ≡ said_then n (said line) (said_from said (n + 1) lines)
unfolding said_from
said_more {X} said n line lines =
    let bad : List ℕ → Bool = λ l. is_none (said l) in
    let own : List ℕ → Option X = λ l. option_flatten (said l) in
    let whole : Option ℕ → Result (List X) ℕ = λ place. option_map_or (λ i. Err (n + i)) place (Ok (filter_map own (line ∷ lines))) in
    ap whole (position_more bad line lines) ∙ joined n (said line) (position bad lines) (filter_map own lines)

pub said_nothing : {X : Type 0} (said : List ℕ → Option (Option X)) (n : ℕ) → said_from said n [] ≡ Ok []
unfolding said_from
said_nothing said n = refl

-- ---- the lines so far

with_more : {X : Type 0} (n : ℕ) (value : Option (Option X)) (values new : List X) (read : Result (List X) ℕ) → with_said n value values ≡ Ok new → after values (said_then n value read) ≡ after new read
unfolding with_said
with_more n None values new read is = absurd (let e : Err n ≡ Ok new = is in cc)
with_more n (Some None) values new (Ok more) is = let e : values ≡ new = (let f : Ok values ≡ Ok new = is in cc) in rw e refl
with_more n (Some None) values new (Err m) is = refl
with_more n (Some (Some value)) values new (Ok more) is =
    let e : values ++ value ∷ [] ≡ new = (let f : Ok (values ++ value ∷ []) ≡ Ok new = is in cc) in
    rw (← e) (ap (λ vs. Ok vs) (sym (append_assoc values (value ∷ []) more)))
with_more n (Some (Some value)) values new (Err m) is = refl

-- a line more is read
pub line_read : {X : Type 0} (said : List ℕ → Option (Option X)) (n : ℕ) (values new : List X) (line : List ℕ) (lines : List (List ℕ)) (whole : Result (List X) ℕ)
    → with_said n (said line) values ≡ Ok new → after values (said_from said n (line ∷ lines)) ≡ whole → after new (said_from said (n + 1) lines) ≡ whole
line_read said n values new line lines whole is so_far =
    sym (with_more n (said line) values new (said_from said (n + 1) lines) is) ∙ ap (after values) (sym (said_more said n line lines)) ∙ so_far

with_fault : {X : Type 0} (n m : ℕ) (value : Option (Option X)) (values : List X) (read : Result (List X) ℕ) → with_said n value values ≡ Err m → after values (said_then n value read) ≡ Err m
unfolding with_said
with_fault n m None values read is = is
with_fault n m (Some None) values read is = absurd (let e : Ok values ≡ Err m = is in cc)
with_fault n m (Some (Some value)) values read is = absurd (let e : Ok (values ++ value ∷ []) ≡ Err m = is in cc)

-- a line isn't read
pub line_failed : {X : Type 0} (said : List ℕ → Option (Option X)) (e : ReadError) (n : ℕ) (values : List X) (line : List ℕ) (lines : List (List ℕ)) (whole : Result (List X) ℕ)
    → Fails e (with_said n (said line) values) → after values (said_from said n (line ∷ lines)) ≡ whole → Fails e whole
line_failed said Memory n values line lines whole fails so_far = tt
line_failed said (Line m) n values line lines whole fails so_far =
    sym so_far ∙ ap (after values) (said_more said n line lines) ∙ with_fault n m (said line) values (said_from said (n + 1) lines) fails

-- all lines are read
pub lines_read : {X : Type 0} (said : List ℕ → Option (Option X)) (n : ℕ) (values : List X) (whole : Result (List X) ℕ) → after values (said_from said n []) ≡ whole → whole ≡ Ok values
lines_read said n values whole so_far = sym so_far ∙ ap (after values) (said_nothing said n) ∙ ap (λ vs. Ok vs) (append-nil values)

-- there are no more lines than bytes, and one
pub few_parts : (mark : ℕ) (bytes : List ℕ) → length (parts mark bytes) ≤ length bytes + 1
few_parts mark bytes = omega (arith, length-slice_split (λ b. eqb b mark) bytes, count_by-le-length (λ b. eqb b mark) bytes)
