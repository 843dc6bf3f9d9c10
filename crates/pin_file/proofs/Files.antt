-- Laws of whole files: what is read is spelled so, and what is spelled so is read, whatever follows it.
use Rattle.std.proofs.Common.{◌≡◌, ◌≢◌, ℕ, ◌+◌, ◌-◌, ◌<◌, ◌≤◌, true, false, eqb, leb, cond, inl, inr, Some, None, List, [], ◌∷◌, ◌++◌, length, get_or, map, codes, Result, Ok, Err, refl, sym, ap, subst, ◌∙◌, arith, append_assoc, append-nil, length-append}
use Rattle.std.specs.List.{All, AllPairs, flat_map, list_any, join_with_byte}
use Rattle.std.specs.Result.{IfOk}
use Rattle.std.specs.Str.{bytes_eq}
use Rattle.std.proofs.lemmas.Bool.Decides.{nat_tests}
use Rattle.std.proofs.lemmas.List.Elements.{All-nil, All-cons, All-head, All-tail, All-append}
use Rattle.std.proofs.lemmas.List.Folds.{list_any_none}
use Rattle.std.proofs.lemmas.Option.{slice_get-get_or}
use Rattle.lb_types_pins.proofs.Pairs.{AllPairs-nil}
use Rattle.lb_types_text.specs.Parts.{parts}
use Rattle.lb_types_text.proofs.Cuts.{some_part}
use Rattle.lb_types_text.proofs.Joins.{HasNo, join_parts, part_before}
use Rattle.dual_cert_text.specs.declared.fault.ReadError.{ReadError}
use Rattle.dual_cert_text.specs.declared.fault.TextFault.{TextFault}
use Rattle.dual_cert_text.specs.declared.fault.TextFault.TheVariants.{BadLine, Truncated}
use Rattle.dual_cert_text.specs.Faults.{Gives}
use Rattle.dual_cert_text.specs.Spellings.{text_of_lines}
use Rattle.dual_cert_text.specs.Texts.{is_nothing}
use Rattle.dual_cert_text.proofs.Bodies.{some_more}
use Rattle.dual_cert_text.proofs.ServerTexts.{differ_bytes}
use Rattle.dual_cert_text.proofs.Steps.{bind_ok, unless_err, if_err, either, bytes_is}
use Rattle.dual_cert_text.proofs.WholeTexts.{no_mark}
use Rattle.pin_file.specs.declared.file_pin.FilePin.{FilePin}
use Rattle.pin_file.specs.declared.backend_pins.BackendPins.{BackendPins}
use Rattle.pin_file.specs.Files.{IsFilePin, IsBackendPins, IsPinFile}
use Rattle.pin_file.specs.Spellings.{pin_line, backend_lines, spelling}
use Rattle.pin_file.specs.Texts.{PinFileDraft, draft_of, backends_of, has_name, no_pins, comes_next, add_backend, add_pin, add_line, lines_at, draft_at, file_of_text}
use Rattle.pin_file.proofs.Lines.{words_of, pin_again, pin_line_apart, pin_line_free, pin_line_goes_on, backend_again, backend_line_apart, backend_line_free, backend_line_goes_on}
use Rattle.pin_file.proofs.Adding.{all_last, pairs_last, draft_lines, line_added}

-- ---- what is read is spelled so

is_nothing_is : (ps : List (List ℕ)) → is_nothing ps ≡ true → ps ≡ [] ∷ []
unfolding is_nothing
is_nothing_is [] is = cc
is_nothing_is ([] ∷ []) is = refl
is_nothing_is ((b ∷ bs) ∷ []) is = let z : eqb (length (b ∷ bs)) 0 ≡ false = grind (arith, nat_tests) in cc
is_nothing_is (p ∷ q ∷ ps) is = cc

err_is_not_ok : {A : Type 0} (e : TextFault) (y : A) → Err e ≡ Ok y → ⊥
err_is_not_ok e y is = cc

-- what a text is made of that is read from a draft on
record IsReadAs (before : List (List ℕ)) (next : PinFileDraft) : Type 0 where
  kept : IsPinFile (backends_of next)
  whole : before ≡ draft_lines next ++ codes "end" ∷ [] ∷ []

lines_found : (ps : List (List ℕ)) (n : ℕ) (draft next : PinFileDraft) → IsPinFile (backends_of draft) → lines_at n draft ps ≡ Ok next → IsReadAs (draft_lines draft ++ ps) next
unfolding lines_at
lines_found [] n draft next kept is = absurd (err_is_not_ok Truncated next is)
lines_found (line ∷ rest) n draft next kept is =
    let whole = unless_err (eqb (length rest) 0) _ _ _ is in
    elim (either (bytes_eq line (codes "end")) _ _ _ whole.1) [
      | inl end ↦
          let nothing = if_err (is_nothing rest) _ _ _ end.1 in
          let same : draft ≡ next = (let e = nothing.1 in cc) in
          let R : PinFileDraft → Type 0 = λ d. IsReadAs (draft_lines draft ++ line ∷ rest) d in
          subst R same (record {
            kept = kept;
            whole = rw (bytes_is line (codes "end") end.0, is_nothing_is rest nothing.0) refl;
          })
      | inr more ↦
          let step = bind_ok (add_line n draft (parts 32 line)) _ next more.1 in
          let added = line_added n draft step.0 (parts 32 line) kept step.1 in
          let found = lines_found rest (n + 1) step.0 next added.kept step.2 in
          let again : draft_lines step.0 ≡ draft_lines draft ++ line ∷ [] = added.lines ∙ ap (λ l. draft_lines draft ++ l ∷ []) (join_parts 32 line) in
          let regrouped : draft_lines draft ++ line ∷ rest ≡ draft_lines step.0 ++ rest = rw again (sym (append_assoc (draft_lines draft) (line ∷ []) rest)) in
          record { kept = found.kept; whole = regrouped ∙ found.whole }
    ]

no_file : IsPinFile []
no_file = record { backends = All-nil IsBackendPins; distinct = AllPairs-nil (λ a b. a.name ≢ b.name) }

draft_found : (ps : List (List ℕ)) (next : PinFileDraft) → draft_at ps ≡ Ok next → IsPinFile (backends_of next) × (ps ≡ codes "stickypins 1" ∷ draft_lines next ++ codes "end" ∷ [] ∷ [])
unfolding draft_at
draft_found [] next is = absurd (err_is_not_ok Truncated next is)
draft_found (line ∷ rest) next is =
    let whole = unless_err (eqb (length rest) 0) _ _ _ is in
    let first = if_err (bytes_eq line (codes "stickypins 1")) _ _ _ whole.1 in
    let found = lines_found rest 2 (draft_of [] None) next no_file first.1 in
    (found.kept, rw (bytes_is line (codes "stickypins 1") first.0) (ap (λ l. codes "stickypins 1" ∷ l) found.whole))

-- lines with an empty part behind them, joined, are the text of the lines
join_ends : (lines : List (List ℕ)) → join_with_byte 10 (lines ++ [] ∷ []) ≡ text_of_lines lines
unfolding text_of_lines
join_ends [] = refl
join_ends (line ∷ []) = sym (append_assoc line (10 ∷ []) [])
join_ends (line ∷ next ∷ lines) =
    ap (λ t. line ++ 10 ∷ t) (join_ends (next ∷ lines)) ∙ sym (append_assoc line (10 ∷ []) (text_of_lines (next ∷ lines)))

pub file_found : (text : List ℕ) (draft : PinFileDraft) → draft_at (parts 10 text) ≡ Ok draft → IsPinFile (backends_of draft) × (text ≡ spelling (backends_of draft))
unfolding spelling
file_found text draft is =
    let found = draft_found (parts 10 text) draft is in
    let lines = codes "stickypins 1" ∷ draft_lines draft ++ codes "end" ∷ [] in
    let whole : parts 10 text ≡ lines ++ [] ∷ [] = found.1 ∙ ap (λ l. codes "stickypins 1" ∷ l) (sym (append_assoc (draft_lines draft) (codes "end" ∷ []) ([] ∷ []))) in
    (found.0, sym (join_parts 10 text) ∙ ap (join_with_byte 10) whole ∙ join_ends lines)

-- ---- what is spelled so is read

-- each of the lines, added in turn to the draft, gives the next draft, and the last one is `next`
abbrev Leads : PinFileDraft → List (List ℕ) → PinFileDraft → Type 0
Leads draft [] next = draft ≡ next
Leads draft (line ∷ lines) next =
    HasNo 10 line × (bytes_eq line (codes "end") ≡ false) × (mid : PinFileDraft) × ((n : ℕ) → add_line n draft (parts 32 line) ≡ Ok mid) × Leads mid lines next

leads_both : (lines more : List (List ℕ)) (a b c : PinFileDraft) → Leads a lines b → Leads b more c → Leads a (lines ++ more) c
leads_both [] more a b c first second = let F : PinFileDraft → Type 0 = λ d. Leads d more c in subst F (sym first) second
leads_both (line ∷ lines) more a b c first second = (first.0, first.1, first.2, first.3, leads_both lines more first.2 b c first.4 second)

leads_free : (lines : List (List ℕ)) (draft next : PinFileDraft) → Leads draft lines next → All (HasNo 10) lines
leads_free [] draft next leads = All-nil (HasNo 10)
leads_free (line ∷ lines) draft next leads = All-cons (HasNo 10) line lines leads.0 (leads_free lines leads.2 next leads.4)

-- what stands behind the line `end`
abbrev end_of : ℕ → PinFileDraft → List (List ℕ) → Result PinFileDraft TextFault
end_of m next ps = cond (is_nothing ps) (Ok next) (Err (BadLine (m + 1)))

lines_lead : (lines ps : List (List ℕ)) (n : ℕ) (draft next : PinFileDraft) → Leads draft lines next → 0 < length ps → (m : ℕ) × (lines_at n draft (lines ++ codes "end" ∷ ps) ≡ end_of m next ps)
unfolding lines_at
lines_lead [] ps n draft next leads some = (n, rw (some_more ps some, leads) refl)
lines_lead (line ∷ lines) ps n draft next leads some =
    let more : 0 < length (lines ++ codes "end" ∷ ps) = omega (arith, length-append lines (codes "end" ∷ ps)) in
    let rest = lines_lead lines ps (n + 1) leads.2 next leads.4 some in
    (rest.0, rw (some_more (lines ++ codes "end" ∷ ps) more, leads.1, leads.3 n) rest.1)

-- ---- pins

comes_next_again : (front rest : List FilePin) (p : FilePin) → AllPairs (λ a b. b.age ≤ a.age) (front ++ p ∷ rest) → comes_next front p ≡ true
comes_next_again [] rest p falling = refl
comes_next_again (first ∷ front) rest p falling =
    let all = first ∷ front in
    let last = length all - 1 in
    let found = slice_get-get_or all last p (omega arith) in
    let low = pairs_last (λ a b. b.age ≤ a.age) all p rest falling last p (omega arith) in
    let test : leb p.age (get_or all last p).age ≡ true = grind (arith, nat_tests) in
    rw found test

abbrev backend_with : List ℕ → List FilePin → BackendPins
backend_with name pins = record { name = name; pins = pins }

pin_add : (n : ℕ) (before : List BackendPins) (name : List ℕ) (front rest : List FilePin) (p : FilePin) → IsBackendPins (backend_with name (front ++ p ∷ rest)) → add_line n (draft_of before (Some (backend_with name front))) (codes "pin" ∷ words_of p) ≡ Ok (draft_of before (Some (backend_with name (front ++ p ∷ []))))
unfolding add_line add_pin
pin_add n before name front rest p kept =
    let lawful = all_last IsFilePin front p rest kept.pins in
    let room : leb 16777216 (length front) ≡ false = (let few = kept.few in grind (arith, nat_tests, length-append front (p ∷ rest))) in
    rw (pin_again p lawful, room, comes_next_again front rest p kept.falling) refl

pins_lead : (rest front : List FilePin) (before : List BackendPins) (name : List ℕ) → IsBackendPins (backend_with name (front ++ rest)) → Leads (draft_of before (Some (backend_with name front))) (map (λ p. pin_line p) rest) (draft_of before (Some (backend_with name (front ++ rest))))
pins_lead [] front before name kept = ap (λ pins. draft_of before (Some (backend_with name pins))) (sym (append-nil front))
pins_lead (p ∷ rest) front before name kept =
    let lawful = all_last IsFilePin front p rest kept.pins in
    let again = append_assoc front (p ∷ []) rest in
    let K : List FilePin → Type 0 = λ pins. IsBackendPins (backend_with name pins) in
    let N : List FilePin → Type 0 = λ pins. Leads (draft_of before (Some (backend_with name (front ++ p ∷ [])))) (map (λ q. pin_line q) rest) (draft_of before (Some (backend_with name pins))) in (
      pin_line_free p lawful,
      pin_line_goes_on p,
      draft_of before (Some (backend_with name (front ++ p ∷ []))),
      (λ n. rw (pin_line_apart p lawful) (pin_add n before name front rest p kept)),
      subst N again (pins_lead rest (front ++ p ∷ []) before name (subst K (sym again) kept)),
    )

-- ---- backends

not_taken : (bs rest : List BackendPins) (b : BackendPins) → AllPairs (λ a c. a.name ≢ c.name) (bs ++ b ∷ rest) → list_any (λ c. has_name b.name c) bs ≡ false
not_taken bs rest b distinct =
    list_any_none (λ c. has_name b.name c) bs (λ k d within. differ_bytes _ b.name (pairs_last (λ a c. a.name ≢ c.name) bs b rest distinct k d within))

backend_add : (n : ℕ) (draft : PinFileDraft) (b : BackendPins) (rest : List BackendPins) → IsPinFile (backends_of draft ++ b ∷ rest) → add_line n draft (codes "backend" ∷ b.name ∷ []) ≡ Ok (draft_of (backends_of draft) (Some (no_pins b.name)))
unfolding add_line add_backend
backend_add n draft b rest kept =
    let lawful = all_last IsBackendPins (backends_of draft) b rest kept.backends in
    rw (backend_again b.name lawful.name, not_taken (backends_of draft) rest b kept.distinct) refl

backend_leads : (draft : PinFileDraft) (b : BackendPins) (rest : List BackendPins) → IsPinFile (backends_of draft ++ b ∷ rest) → Leads draft (backend_lines b) (draft_of (backends_of draft) (Some b))
unfolding backend_lines
backend_leads draft b rest kept =
    let lawful = all_last IsBackendPins (backends_of draft) b rest kept.backends in (
      backend_line_free b.name lawful.name,
      backend_line_goes_on b.name,
      draft_of (backends_of draft) (Some (no_pins b.name)),
      (λ n. rw (backend_line_apart b.name lawful.name) (backend_add n draft b rest kept)),
      pins_lead b.pins [] (backends_of draft) b.name lawful,
    )

backends_lead : (rest : List BackendPins) (draft : PinFileDraft) → IsPinFile (backends_of draft ++ rest) → (last : PinFileDraft) × Leads draft (flat_map (λ b. backend_lines b) rest) last × (backends_of last ≡ backends_of draft ++ rest)
backends_lead [] draft kept = (draft, refl, sym (append-nil (backends_of draft)))
backends_lead (b ∷ rest) draft kept =
    let next = draft_of (backends_of draft) (Some b) in
    let again = append_assoc (backends_of draft) (b ∷ []) rest in
    let K : List BackendPins → Type 0 = λ bs. IsPinFile bs in
    let more = backends_lead rest next (subst K (sym again) kept) in (
      more.0,
      leads_both (backend_lines b) (flat_map (λ c. backend_lines c) rest) draft next more.0 (backend_leads draft b rest kept) more.1,
      more.2 ∙ again,
    )

-- ---- whole files

-- lines come apart at their ends
lines_apart : (lines : List (List ℕ)) (rest : List ℕ) → All (HasNo 10) lines → parts 10 (text_of_lines lines ++ rest) ≡ lines ++ parts 10 rest
unfolding text_of_lines
lines_apart [] rest free = refl
lines_apart (line ∷ lines) rest free =
    let more = lines_apart lines rest (All-tail (HasNo 10) line lines free) in
    let cut = part_before 10 line (text_of_lines lines ++ rest) (All-head (HasNo 10) line lines free) in
    ap (parts 10) (regrouped line (text_of_lines lines) rest) ∙ cut ∙ ap (λ ps. line ∷ ps) more
  where
    regrouped : (a b c : List ℕ) → ((a ++ 10 ∷ []) ++ b) ++ c ≡ a ++ 10 ∷ (b ++ c)
    regrouped a b c = append_assoc (a ++ 10 ∷ []) b c ∙ append_assoc a (10 ∷ []) (b ++ c)

draft_at_first : (ps : List (List ℕ)) → 0 < length ps → draft_at (codes "stickypins 1" ∷ ps) ≡ lines_at 2 (draft_of [] None) ps
unfolding draft_at
draft_at_first ps some = rw (some_more ps some) refl

-- a file's text, whatever follows it, is read so far
text_leads : (file : List BackendPins) (rest : List ℕ) → IsPinFile file → (next : PinFileDraft) × (m : ℕ) × (backends_of next ≡ file) × (draft_at (parts 10 (spelling file ++ rest)) ≡ end_of m next (parts 10 rest))
unfolding spelling
text_leads file rest kept =
    let leads = backends_lead file (draft_of [] None) kept in
    let body = flat_map (λ b. backend_lines b) file in
    let free = leads_free body (draft_of [] None) leads.0 leads.1 in
    let ended = All-append (HasNo 10) body (codes "end" ∷ []) free (All-cons (HasNo 10) (codes "end") [] (no_mark 10 (codes "end") refl) (All-nil (HasNo 10))) in
    let all = All-cons (HasNo 10) (codes "stickypins 1") (body ++ codes "end" ∷ []) (no_mark 10 (codes "stickypins 1") refl) ended in
    let apart = lines_apart (codes "stickypins 1" ∷ body ++ codes "end" ∷ []) rest all in
    let regrouped = ap (λ ls. codes "stickypins 1" ∷ ls) (append_assoc body (codes "end" ∷ []) (parts 10 rest)) in
    let some : 0 < length (body ++ codes "end" ∷ parts 10 rest) = omega (arith, length-append body (codes "end" ∷ parts 10 rest)) in
    let read = lines_lead body (parts 10 rest) 2 (draft_of [] None) leads.0 leads.1 (some_part 10 rest) in
    (leads.0, read.0, leads.2, ap draft_at (apart ∙ regrouped) ∙ draft_at_first (body ++ codes "end" ∷ parts 10 rest) some ∙ read.1)

end_again : (m : ℕ) (next : PinFileDraft) → end_of m next (parts 10 []) ≡ Ok next
unfolding is_nothing
end_again m next = refl

pub file_again : (file : List BackendPins) → IsPinFile file → file_of_text (spelling file) ≡ Ok file
unfolding file_of_text
file_again file kept =
    let leads = text_leads file [] kept in
    let read : draft_at (parts 10 (spelling file)) ≡ Ok leads.0 = ap (λ t. draft_at (parts 10 t)) (sym (append-nil (spelling file))) ∙ leads.3 ∙ end_again leads.1 leads.0 in
    rw read (ap (λ f. Ok f) leads.2)

-- no text begins another
pub file_alone : (a b : List BackendPins) (rest : List ℕ) → IsPinFile a → IsPinFile b → spelling b ≡ spelling a ++ rest → (a ≡ b) × (rest ≡ [])
unfolding file_of_text
file_alone a b rest kept_a kept_b begins =
    let leads = text_leads a rest kept_a in
    let other = bind_ok (draft_at (parts 10 (spelling b))) _ b (file_again b kept_b) in
    let ends : end_of leads.1 leads.0 (parts 10 rest) ≡ Ok other.0 = sym leads.3 ∙ ap (λ t. draft_at (parts 10 t)) (sym begins) ∙ other.1 in
    let nothing = if_err (is_nothing (parts 10 rest)) _ _ _ ends in
    let same : leads.0 ≡ other.0 = (let e = nothing.1 in cc) in
    let named : backends_of other.0 ≡ b = (let e = other.2 in cc) in
    (sym leads.2 ∙ ap backends_of same ∙ named, sym (join_parts 10 rest) ∙ ap (join_with_byte 10) (is_nothing_is (parts 10 rest) nothing.0))

-- ---- what the reader promises

pub file_is_spelled : (text : List ℕ) (r : Result (List BackendPins) ReadError) → Gives (λ f. f) r (file_of_text text) → IfOk r (λ file. text ≡ spelling file)
unfolding file_of_text
file_is_spelled text (Err e) gives = tt
file_is_spelled text (Ok file) gives =
    let read = bind_ok (draft_at (parts 10 text)) _ file gives in
    let same : backends_of read.0 ≡ file = (let e = read.2 in cc) in
    let F : List BackendPins → Type 0 = λ f. text ≡ spelling f in
    subst F same (file_found text read.0 read.1).1

pub file_is_read : (text : List ℕ) (r : Result (List BackendPins) ReadError) → Gives (λ f. f) r (file_of_text text) → (file : List BackendPins) → IsPinFile file → text ≡ spelling file → Gives (λ f. f) r (Ok file)
unfolding file_of_text
file_is_read text r gives file kept is =
    let again : file_of_text text ≡ Ok file = ap file_of_text is ∙ file_again file kept in
    let F : Result (List BackendPins) TextFault → Type 0 = λ read. Gives (λ f. f) r read in
    subst F again gives
