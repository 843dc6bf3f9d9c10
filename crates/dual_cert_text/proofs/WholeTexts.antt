-- Laws of whole texts of any format: what is read is spelled so, and what is spelled so is read, whatever follows it.
use Rattle.std.proofs.Common.{◌≡◌, ◌≢◌, ℕ, ◌+◌, ◌-◌, ◌^◌, ◌<◌, ◌≤◌, Bool, true, false, not, eqb, ltb, cond, inl, inr, Some, List, [], ◌∷◌, ◌++◌, length, codes, Ok, Err, refl, sym, ap, ◌∙◌, arith, append_assoc, length-append}
use Rattle.std.proofs.lemmas.List.{append-nil}
use Rattle.std.specs.Fmt.{decimal}
use Rattle.std.specs.List.{All, list_all, join_with_byte}
use Rattle.std.specs.Option.{ok_or}
use Rattle.std.specs.Str.{bytes_eq}
use Rattle.std.specs.Int.{IsInRange}
use Rattle.std.proofs.lemmas.Bool.Decides.{nat_tests}
use Rattle.std.proofs.lemmas.List.Elements.{All-nil, All-cons, All-head, All-tail, All-append}
use Rattle.lb_types_text.specs.Parts.{parts}
use Rattle.lb_types_text.proofs.Cuts.{some_part}
use Rattle.lb_types_text.proofs.Joins.{HasNo, join_parts, parts_join, part_before, free_join}
use Rattle.lb_types_text.proofs.Numerals.{spelled_as, numeral_again, decimal_free}
use Rattle.dual_cert_text.specs.declared.fault.TextFault.{TextFault}
use Rattle.dual_cert_text.specs.declared.fault.TextFault.TheVariants.{BadLine, Truncated}
use Rattle.dual_cert_text.specs.Spellings.{heading_lines, line_of_words, text_of_lines}
use Rattle.dual_cert_text.specs.Texts.{Format, Line, Heading, line_of, form_of, version_of, heading_at, is_nothing, end_at, body_at, reading}
use Rattle.dual_cert_text.specs.Words.{keyed}
use Rattle.dual_cert_text.proofs.Bodies.{some_more}
use Rattle.dual_cert_text.proofs.Steps.{and_true, not_true, bind_ok, ok_or_ok, unless_err, if_err, if_none, either, bytes_is, bytes_same}

-- each line that is added stands as the last one in the lines of the draft, and keeps what drafts keep
pub record Builds {D : Type 0} (format : Format D) (Keeps : D → Type 0) (lines : D → List (List ℕ)) : Type 0 where
  pub starts : (is_second : Bool) (version : ℕ) → version ≤ 2 ^ 63 → Keeps (format.start is_second version) × (lines (format.start is_second version) ≡ heading_lines format.word is_second version)
  pub adds : (n : ℕ) (draft next : D) (words : List (List ℕ)) → Keeps draft → format.add n draft words ≡ Ok next → Keeps next × (lines next ≡ lines draft ++ line_of_words words ∷ [])

-- what a text that is read is made of
pub record IsReadAs {D : Type 0} (format : Format D) (Keeps : D → Type 0) (lines : D → List (List ℕ)) (before : List (List ℕ)) (next : D) : Type 0 where
  pub keeps : Keeps next
  pub may_end : format.may_end next ≡ true
  pub whole : before ≡ lines next ++ codes "end" ∷ [] ∷ []

is_nothing_is : (ps : List (List ℕ)) → is_nothing ps ≡ true → ps ≡ [] ∷ []
unfolding is_nothing
is_nothing_is [] is = cc
is_nothing_is ([] ∷ []) is = refl
is_nothing_is ((b ∷ bs) ∷ []) is = let z : eqb (length (b ∷ bs)) 0 ≡ false = grind (arith, nat_tests) in cc
is_nothing_is (p ∷ q ∷ ps) is = cc

not_false : (b : Bool) → not b ≡ false → b ≡ true
not_false true is = refl
not_false false is = cc

end_found : {D : Type 0} (format : Format D) (n : ℕ) (draft next : D) (rest : List (List ℕ)) → end_at format n draft rest ≡ Ok next → (format.may_end next ≡ true) × (draft ≡ next) × (rest ≡ [] ∷ [])
unfolding end_at
end_found format n draft next rest is =
    let may = unless_err (not (format.may_end draft)) _ _ _ is in
    let nothing = if_err (is_nothing rest) _ _ _ may.1 in
    let same : draft ≡ next = (let e = nothing.1 in cc) in
    (rw (← same) (not_false (format.may_end draft) may.0), same, is_nothing_is rest nothing.0)

err_is_not_ok : {A : Type 0} (e : TextFault) (y : A) → Err e ≡ Ok y → ⊥
err_is_not_ok e y is = cc

body_found : {D : Type 0} (format : Format D) (Keeps : D → Type 0) (lines : D → List (List ℕ)) → Builds format Keeps lines → (ps : List (List ℕ)) (n : ℕ) (draft next : D) → Keeps draft → body_at format n draft ps ≡ Ok next → IsReadAs format Keeps lines (lines draft ++ ps) next
unfolding body_at
body_found format Keeps lines law [] n draft next keeps is = absurd (err_is_not_ok Truncated next is)
body_found format Keeps lines law (line ∷ rest) n draft next keeps is =
    let whole = unless_err (eqb (length rest) 0) _ _ _ is in
    elim (either (bytes_eq line (codes "end")) _ _ _ whole.1) [
      | inl end ↦
          let found = end_found format n draft next rest end.1 in
          record {
            keeps = rw (← found.1) keeps;
            may_end = found.0;
            whole = rw (bytes_is line (codes "end") end.0, found.1, found.2) refl;
          }
      | inr more ↦
          let step = bind_ok (format.add n draft (parts 32 line)) _ next more.1 in
          let added = law.adds n draft step.0 (parts 32 line) keeps step.1 in
          let found = body_found format Keeps lines law rest (n + 1) step.0 next added.0 step.2 in
          let again : lines step.0 ≡ lines draft ++ line ∷ [] = added.1 ∙ ap (λ l. lines draft ++ l ∷ []) (join_parts 32 line) in
          let regrouped : lines draft ++ line ∷ rest ≡ lines step.0 ++ rest = rw again (sym (append_assoc (lines draft) (line ∷ []) rest)) in
          record { keeps = found.keeps; may_end = found.may_end; whole = regrouped ∙ found.whole }
    ]

line_found : (ps : List (List ℕ)) (l : Line) → line_of ps ≡ Ok l → ps ≡ l.line ∷ l.rest
unfolding line_of
line_found [] l is = cc
line_found (line ∷ rest) l is =
    let whole = unless_err (eqb (length rest) 0) _ _ _ is in
    let made : Line = record { line = line; rest = rest } in
    let same : made ≡ l = (let e = whole.1 in cc) in
    rw (← same) refl

form_found : (word : List ℕ) (words : List (List ℕ)) (is_second : Bool) → form_of word words ≡ Some is_second → words ≡ word ∷ cond is_second (codes "2") (codes "1") ∷ []
unfolding form_of
form_found word [] is_second is = cc
form_found word (first ∷ []) is_second is = cc
form_found word (first ∷ form ∷ []) is_second is =
    let named = if_none (bytes_eq first word) _ _ is in
    elim (either (bytes_eq form (codes "1")) _ _ _ named.1) [
      | inl one ↦
          let same : false ≡ is_second = (let e = one.1 in cc) in
          rw (bytes_is first word named.0, bytes_is form (codes "1") one.0, ← same) refl
      | inr more ↦
          let two = if_none (bytes_eq form (codes "2")) _ _ more.1 in
          let same : true ≡ is_second = (let e = two.1 in cc) in
          rw (bytes_is first word named.0, bytes_is form (codes "2") two.0, ← same) refl
    ]
form_found word (first ∷ form ∷ more ∷ words) is_second is = cc

-- a keyed number, spelled
pub keyed_found : (key word number : List ℕ) (n : ℕ) → keyed key word number ≡ Some n → n < 2 ^ 64 - 1 → (word ≡ key) × (number ≡ decimal n)
unfolding keyed
keyed_found key word number n is small =
    let said = if_none (bytes_eq word key) _ _ is in
    (bytes_is word key said.0, spelled_as number n said.1 small)

version_found : (words : List (List ℕ)) (version : ℕ) → version_of words ≡ Some version → version < 2 ^ 64 - 1 → words ≡ codes "version" ∷ decimal version ∷ []
unfolding version_of
version_found [] version is small = cc
version_found (word ∷ []) version is small = cc
version_found (word ∷ number ∷ []) version is small =
    let said = keyed_found (codes "version") word number version is small in
    rw (said.0, said.1) refl
version_found (word ∷ number ∷ more ∷ words) version is small = cc

heading_join : (word : List ℕ) (ps : List (List ℕ)) (one : List ℕ) (rest : List (List ℕ)) (two : List ℕ) (more : List (List ℕ)) (is_second : Bool) (version : ℕ) → ps ≡ one ∷ rest → rest ≡ two ∷ more → one ≡ line_of_words (word ∷ cond is_second (codes "2") (codes "1") ∷ []) → two ≡ line_of_words (codes "version" ∷ decimal version ∷ []) → ps ≡ heading_lines word is_second version ++ more
unfolding heading_lines
heading_join word ps one rest two more is_second version all behind first second = all ∙ rw (behind, first, second) refl

heading_found : (word : List ℕ) (ps : List (List ℕ)) (h : Heading) → heading_at word ps ≡ Ok h → (h.version ≤ 2 ^ 63) × (ps ≡ heading_lines word h.is_second h.version ++ h.rest)
unfolding heading_at heading_lines
heading_found word ps h is =
    let first = bind_ok (line_of ps) _ h is in
    let form = bind_ok (ok_or (form_of word (parts 32 first.0.line)) (BadLine 1)) _ h first.2 in
    let second = bind_ok (line_of first.0.rest) _ h form.2 in
    let version = bind_ok (ok_or (version_of (parts 32 second.0.line)) (BadLine 2)) _ h second.2 in
    let small = unless_err (ltb (2 ^ 63) version.0) _ _ _ version.2 in
    let below : version.0 ≤ 2 ^ 63 = (let s = small.0 in grind (arith, nat_tests)) in
    let made : Heading = record { is_second = form.0; version = version.0; rest = second.0.rest } in
    let same : made ≡ h = (let e = small.1 in cc) in
    let one = form_found word _ _ (ok_or_ok _ _ _ form.1) in
    let two = version_found _ version.0 (ok_or_ok _ _ _ version.1) (omega arith) in
    let line_one : first.0.line ≡ line_of_words (word ∷ cond form.0 (codes "2") (codes "1") ∷ []) = sym (join_parts 32 first.0.line) ∙ ap line_of_words one in
    let line_two : second.0.line ≡ line_of_words (codes "version" ∷ decimal version.0 ∷ []) = sym (join_parts 32 second.0.line) ∙ ap line_of_words two in
    rw (← same) (below, heading_join word ps _ _ _ _ form.0 version.0 (line_found ps first.0 first.1) (line_found first.0.rest second.0 second.1) line_one line_two)

-- lines with an empty part behind them, joined, are the text of the lines
join_ends : (lines : List (List ℕ)) → join_with_byte 10 (lines ++ [] ∷ []) ≡ text_of_lines lines
unfolding text_of_lines
join_ends [] = refl
join_ends (line ∷ []) = sym (append_assoc line (10 ∷ []) [])
join_ends (line ∷ next ∷ lines) =
    ap (λ t. line ++ 10 ∷ t) (join_ends (next ∷ lines)) ∙ sym (append_assoc line (10 ∷ []) (text_of_lines (next ∷ lines)))

-- what is read is spelled so
pub text_found : {D : Type 0} (format : Format D) (Keeps : D → Type 0) (lines : D → List (List ℕ)) → Builds format Keeps lines → (text : List ℕ) (next : D) → reading format text ≡ Ok next → (Keeps next) × (format.may_end next ≡ true) × (text ≡ text_of_lines (lines next ++ codes "end" ∷ []))
unfolding reading
text_found format Keeps lines law text next is =
    let heading = bind_ok (heading_at format.word (parts 10 text)) _ next is in
    let head = heading_found format.word (parts 10 text) heading.0 heading.1 in
    let start = law.starts heading.0.is_second heading.0.version head.0 in
    let body = body_found format Keeps lines law heading.0.rest 3 _ next start.0 heading.2 in
    let whole : parts 10 text ≡ (lines next ++ codes "end" ∷ []) ++ [] ∷ [] =
    head.1 ∙ ap (λ ls. ls ++ heading.0.rest) (sym start.1) ∙ body.whole ∙ sym (append_assoc (lines next) (codes "end" ∷ []) ([] ∷ [])) in
    (body.keeps, body.may_end, sym (join_parts 10 text) ∙ ap (join_with_byte 10) whole ∙ join_ends (lines next ++ codes "end" ∷ []))

-- each of the lines, added in turn to the draft, gives the next draft, and the last one is `next`
abbrev pub Leads : {D : Type 0} → Format D → D → List (List ℕ) → D → Type 0
Leads format draft [] next = draft ≡ next
Leads {D} format draft (line ∷ lines) next =
    HasNo 10 line × (bytes_eq line (codes "end") ≡ false) × (mid : D) × ((n : ℕ) → format.add n draft (parts 32 line) ≡ Ok mid) × Leads format mid lines next

-- the line `end` of a text in which one draft leads to the other
body_leads : {D : Type 0} (format : Format D) (lines ps : List (List ℕ)) (n : ℕ) (draft next : D) → Leads format draft lines next → 0 < length ps → (m : ℕ) × (body_at format n draft (lines ++ codes "end" ∷ ps) ≡ end_at format m next ps)
unfolding body_at
body_leads format [] ps n draft next leads some = (n, rw (some_more ps some, leads) refl)
body_leads format (line ∷ lines) ps n draft next leads some =
    let more : 0 < length (lines ++ codes "end" ∷ ps) = omega (arith, length-append lines (codes "end" ∷ ps)) in
    let rest = body_leads format lines ps (n + 1) leads.2 next leads.4 some in
    (rest.0, rw (some_more (lines ++ codes "end" ∷ ps) more, leads.1, leads.3 n) rest.1)

-- a byte that is told from the mark by computing
pub no_mark : (mark : ℕ) (bytes : List ℕ) → list_all (λ b. not (eqb b mark)) bytes ≡ true → HasNo mark bytes
no_mark mark [] free = All-nil (λ b. eqb b mark ≡ false)
no_mark mark (b ∷ bytes) free =
    let parts = and_true (not (eqb b mark)) _ free in
    All-cons (λ x. eqb x mark ≡ false) b bytes (not_true (eqb b mark) parts.0) (no_mark mark bytes parts.1)

two_free : (mark : ℕ) (a b : List ℕ) → HasNo mark a → HasNo mark b → All (HasNo mark) (a ∷ b ∷ [])
two_free mark a b free_a free_b = All-cons (HasNo mark) a (b ∷ []) free_a (All-cons (HasNo mark) b [] free_b (All-nil (HasNo mark)))

no_digit : (mark : ℕ) → mark < 48 → ¬ (IsInRange 48 57 mark)
no_digit mark below within = omega (arith, within.0)

form_free : (mark : ℕ) (is_second : Bool) → mark < 48 → HasNo mark (cond is_second (codes "2") (codes "1"))
form_free mark true below = All-cons (λ b. eqb b mark ≡ false) 50 [] (grind (arith, nat_tests)) (All-nil (λ b. eqb b mark ≡ false))
form_free mark false below = All-cons (λ b. eqb b mark ≡ false) 49 [] (grind (arith, nat_tests)) (All-nil (λ b. eqb b mark ≡ false))

form_again : (word : List ℕ) (is_second : Bool) → form_of word (word ∷ cond is_second (codes "2") (codes "1") ∷ []) ≡ Some is_second
unfolding form_of
form_again word true = rw (bytes_same word) refl
form_again word false = rw (bytes_same word) refl

version_again : (version : ℕ) → version < 2 ^ 64 → version_of (codes "version" ∷ decimal version ∷ []) ≡ Some version
unfolding version_of keyed
version_again version small = numeral_again version small

heading_of_lines : (word one two : List ℕ) (words others ps : List (List ℕ)) (is_second : Bool) (version : ℕ) → parts 32 one ≡ words → parts 32 two ≡ others → form_of word words ≡ Some is_second → version_of others ≡ Some version → version ≤ 2 ^ 63 → 0 < length ps → heading_at word (one ∷ two ∷ ps) ≡ Ok (record { is_second = is_second; version = version; rest = ps })
unfolding heading_at line_of
heading_of_lines word one two words others ps is_second version first second form number small some =
    let more : eqb (length (two ∷ ps)) 0 ≡ false = grind (arith, nat_tests) in
    let within : ltb (2 ^ 63) version ≡ false = grind (arith, nat_tests) in
    rw (more, first, form, some_more ps some, second, number, within) refl

-- a heading comes apart again
heading_again : (word : List ℕ) (is_second : Bool) (version : ℕ) (ps : List (List ℕ)) → HasNo 32 word → version ≤ 2 ^ 63 → 0 < length ps → heading_at word (heading_lines word is_second version ++ ps) ≡ Ok (record { is_second = is_second; version = version; rest = ps })
unfolding heading_lines
heading_again word is_second version ps free small some =
    let first = parts_join 32 word (cond is_second (codes "2") (codes "1") ∷ []) (two_free 32 _ _ free (form_free 32 is_second (omega arith))) in
    let number = decimal_free 32 version (omega arith) (no_digit 32 (omega arith)) in
    let second = parts_join 32 (codes "version") (decimal version ∷ []) (two_free 32 _ _ (no_mark 32 (codes "version") refl) number) in
    heading_of_lines word _ _ _ _ ps is_second version first second (form_again word is_second) (version_again version (omega arith)) small some

pub gap_is_no_end : ◌≢◌ {A = ℕ} 32 10
gap_is_no_end = omega arith

-- the lines of a heading hold no line end
heading_free : (word : List ℕ) (is_second : Bool) (version : ℕ) → HasNo 10 word → version ≤ 2 ^ 63 → All (HasNo 10) (heading_lines word is_second version)
unfolding heading_lines
heading_free word is_second version free small =
    let number = decimal_free 10 version (omega arith) (no_digit 10 (omega arith)) in
    two_free 10 _ _
    (free_join 10 32 word (cond is_second (codes "2") (codes "1") ∷ []) gap_is_no_end (two_free 10 _ _ free (form_free 10 is_second (omega arith))))
    (free_join 10 32 (codes "version") (decimal version ∷ []) gap_is_no_end (two_free 10 _ _ (no_mark 10 (codes "version") refl) number))

-- lines come apart at their ends
lines_apart : (lines : List (List ℕ)) (rest : List ℕ) → All (HasNo 10) lines → parts 10 (text_of_lines lines ++ rest) ≡ lines ++ parts 10 rest
unfolding text_of_lines
lines_apart [] rest free = refl
lines_apart (line ∷ lines) rest free =
    let more = lines_apart lines rest (All-tail (HasNo 10) line lines free) in
    let cut = part_before 10 line (text_of_lines lines ++ rest) (All-head (HasNo 10) line lines free) in
    ap (parts 10) (regrouped line (text_of_lines lines) rest) ∙ cut ∙ ap (λ ps. line ∷ ps) more
  where
    regrouped : (a b c : List ℕ) → ((a ++ 10 ∷ []) ++ b) ++ c ≡ a ++ 10 ∷ (b ++ c)
    regrouped a b c = append_assoc (a ++ 10 ∷ []) b c ∙ append_assoc a (10 ∷ []) (b ++ c)

leads_free : {D : Type 0} (format : Format D) (lines : List (List ℕ)) (draft next : D) → Leads format draft lines next → All (HasNo 10) lines
leads_free format [] draft next leads = All-nil (HasNo 10)
leads_free format (line ∷ lines) draft next leads = All-cons (HasNo 10) line lines leads.0 (leads_free format lines leads.2 next leads.4)

-- a text in which the lines lead from the heading to a draft, and the line `end`: whatever follows it, it is read so far
pub text_leads : {D : Type 0} (format : Format D) (is_second : Bool) (version : ℕ) (lines : List (List ℕ)) (next : D) (rest : List ℕ) → HasNo 10 format.word → HasNo 32 format.word → version ≤ 2 ^ 63 → Leads format (format.start is_second version) lines next → (m : ℕ) × (reading format (text_of_lines ((heading_lines format.word is_second version ++ lines) ++ codes "end" ∷ []) ++ rest) ≡ end_at format m next (parts 10 rest))
unfolding reading
text_leads format is_second version lines next rest no_end no_gap small leads =
    let head = heading_lines format.word is_second version in
    let free = All-append (HasNo 10) (head ++ lines) (codes "end" ∷ []) (All-append (HasNo 10) head lines (heading_free format.word is_second version no_end small) (leads_free format lines _ next leads)) (All-cons (HasNo 10) (codes "end") [] (no_mark 10 (codes "end") refl) (All-nil (HasNo 10))) in
    let apart = lines_apart ((head ++ lines) ++ codes "end" ∷ []) rest free in
    let tail : List (List ℕ) = lines ++ codes "end" ∷ parts 10 rest in
    let regrouped : ((head ++ lines) ++ codes "end" ∷ []) ++ parts 10 rest ≡ head ++ tail = append_assoc (head ++ lines) (codes "end" ∷ []) (parts 10 rest) ∙ append_assoc head lines (codes "end" ∷ parts 10 rest) in
    let some : 0 < length tail = omega (arith, length-append lines (codes "end" ∷ parts 10 rest)) in
    let heading = heading_again format.word is_second version tail no_gap small some in
    let body = body_leads format lines (parts 10 rest) 3 (format.start is_second version) next leads (some_part 10 rest) in
    (body.0, rw (apart, regrouped, heading) body.1)

end_again : {D : Type 0} (format : Format D) (m : ℕ) (next : D) → format.may_end next ≡ true → end_at format m next ([] ∷ []) ≡ Ok next
unfolding end_at is_nothing
end_again format m next may = rw may refl

-- what is spelled so is read
pub text_again : {D : Type 0} (format : Format D) (is_second : Bool) (version : ℕ) (lines : List (List ℕ)) (next : D) → HasNo 10 format.word → HasNo 32 format.word → version ≤ 2 ^ 63 → Leads format (format.start is_second version) lines next → format.may_end next ≡ true → reading format (text_of_lines ((heading_lines format.word is_second version ++ lines) ++ codes "end" ∷ [])) ≡ Ok next
text_again format is_second version lines next no_end no_gap small leads may =
    let text = text_of_lines ((heading_lines format.word is_second version ++ lines) ++ codes "end" ∷ []) in
    let whole = text_leads format is_second version lines next [] no_end no_gap small leads in
    ap (reading format) (sym (append-nil text)) ∙ whole.1 ∙ end_again format whole.0 next may

-- bytes behind which no line end stands, and which are nothing
nothing_left : (rest : List ℕ) → parts 10 rest ≡ [] ∷ [] → rest ≡ []
nothing_left rest is = sym (join_parts 10 rest) ∙ ap (join_with_byte 10) is

-- no text begins another: a text that is read, and begins with one that leads to a draft, is that one
pub text_alone : {D : Type 0} (format : Format D) (is_second : Bool) (version : ℕ) (lines : List (List ℕ)) (next other : D) (text rest : List ℕ) → HasNo 10 format.word → HasNo 32 format.word → version ≤ 2 ^ 63 → Leads format (format.start is_second version) lines next → text ≡ text_of_lines ((heading_lines format.word is_second version ++ lines) ++ codes "end" ∷ []) ++ rest → reading format text ≡ Ok other → (next ≡ other) × (rest ≡ [])
text_alone format is_second version lines next other text rest no_end no_gap small leads begins is =
    let whole = text_leads format is_second version lines next rest no_end no_gap small leads in
    let found = end_found format whole.0 next other (parts 10 rest) (sym whole.1 ∙ ap (reading format) (sym begins) ∙ is) in
    (found.1, nothing_left rest found.2)
