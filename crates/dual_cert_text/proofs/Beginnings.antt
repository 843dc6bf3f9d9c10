-- What follows a text changes nothing that its whole lines say: a fault that was found in them stays.
use Rattle.std.proofs.Common.{◌≡◌, ◌≢◌, ℕ, ◌+◌, ◌^◌, ◌<◌, Bool, true, false, not, eqb, ltb, cond, ◌⊎◌, inl, inr, List, [], ◌∷◌, ◌++◌, length, codes, Result, Ok, Err, refl, sym, ap, subst, ◌∙◌, arith, length-append}
use Rattle.std.specs.List.{onto_first}
use Rattle.std.specs.Option.{ok_or}
use Rattle.std.specs.Str.{bytes_eq}
use Rattle.std.proofs.lemmas.Bool.Decides.{nat_tests}
use Rattle.lb_types_text.specs.Parts.{parts}
use Rattle.lb_types_text.proofs.Cuts.{some_part}
use Rattle.dual_cert_plan.specs.Plans.{PlanParts, IsPlan}
use Rattle.dual_cert_text.specs.declared.fault.TextFault.{TextFault}
use Rattle.dual_cert_text.specs.declared.fault.TextFault.TheVariants.{BadLine, TooLarge, NotCanonical, Truncated}
use Rattle.dual_cert_text.specs.Faults.{◌>>=◌}
use Rattle.dual_cert_text.specs.PlanTexts.{plan_format, plan_of_text}
use Rattle.dual_cert_text.specs.Spellings.{spelling}
use Rattle.dual_cert_text.specs.Texts.{Format, Line, Heading, line_of, form_of, version_of, heading_at, is_nothing, end_at, body_at, reading}
use Rattle.dual_cert_text.proofs.Bodies.{some_more}
use Rattle.dual_cert_text.proofs.PlanLaws.{plan_found, plan_again, plan_alone}
use Rattle.dual_cert_text.proofs.Steps.{bind_ok, either}

-- the parts of a text, and those of the same text with more bytes behind it: the last part grows, and others may follow
pub record GoesOn (before after : List (List ℕ)) : Type 0 where
  pub lines : List (List ℕ)
  pub last : List ℕ
  pub more : List ℕ
  pub others : List (List ℕ)
  pub front : before ≡ lines ++ last ∷ []
  pub whole : after ≡ lines ++ (last ++ more) ∷ others

first_of_some : (ps : List (List ℕ)) → 0 < length ps → (first : List ℕ) × (more : List (List ℕ)) × (ps ≡ first ∷ more)
first_of_some [] some = absurd (omega arith)
first_of_some (first ∷ more) some = (first, more, refl)

onto_goes_on : (b : ℕ) (lines : List (List ℕ)) (last more : List ℕ) (others : List (List ℕ)) → GoesOn (onto_first b (lines ++ last ∷ [])) (onto_first b (lines ++ (last ++ more) ∷ others))
onto_goes_on b [] last more others = record { lines = []; last = b ∷ last; more = more; others = others; front = refl; whole = refl }
onto_goes_on b (line ∷ lines) last more others = record { lines = (b ∷ line) ∷ lines; last = last; more = more; others = others; front = refl; whole = refl }

byte_goes_on : (is : Bool) (b : ℕ) (ps qs : List (List ℕ)) → GoesOn ps qs → GoesOn (cond is ([] ∷ ps) (onto_first b ps)) (cond is ([] ∷ qs) (onto_first b qs))
byte_goes_on true b ps qs on =
    record { lines = [] ∷ on.lines; last = on.last; more = on.more; others = on.others; front = ap (λ l. [] ∷ l) on.front; whole = ap (λ l. [] ∷ l) on.whole }
byte_goes_on false b ps qs on =
    let F : List (List ℕ) → Type 0 = λ l. GoesOn (onto_first b l) (onto_first b qs) in
    let G : List (List ℕ) → Type 0 = λ l. GoesOn (onto_first b (on.lines ++ on.last ∷ [])) (onto_first b l) in
    subst F (sym on.front) (subst G (sym on.whole) (onto_goes_on b on.lines on.last on.more on.others))

parts_go_on : (mark : ℕ) (front rest : List ℕ) → GoesOn (parts mark front) (parts mark (front ++ rest))
parts_go_on mark [] rest =
    let first = first_of_some (parts mark rest) (some_part mark rest) in
    record { lines = []; last = []; more = first.0; others = first.1; front = refl; whole = first.2 }
parts_go_on mark (b ∷ bytes) rest = byte_goes_on (eqb b mark) b (parts mark bytes) (parts mark (bytes ++ rest)) (parts_go_on mark bytes rest)

-- the second reading has the fault of the first one, unless that is want of text, and what it gives where the first one gave something
record Stays {A B : Type 0} (R : A → B → Type 0) (before : Result A TextFault) (after : Result B TextFault) : Type 0 where
  faulty : (fault : TextFault) → fault ≢ Truncated → before ≡ Err fault → after ≡ Err fault
  good : (x : A) → before ≡ Ok x → (y : B) × (after ≡ Ok y) × R x y

pub ok_is_no_err : {A : Type 0} (x : A) (e : TextFault) → Ok x ≡ Err e → ⊥
ok_is_no_err x e is = cc

err_is_no_ok : {A : Type 0} (e : TextFault) (x : A) → Err e ≡ Ok x → ⊥
err_is_no_ok e x is = cc

err_same : {A B : Type 0} (e f : TextFault) → ◌≡◌ {A = Result A TextFault} (Err e) (Err f) → ◌≡◌ {A = Result B TextFault} (Err e) (Err f)
err_same e f is = let same : e ≡ f = cc in ap Err same

stays_ok : {A B : Type 0} (R : A → B → Type 0) (x : A) (y : B) → R x y → Stays R (Ok x) (Ok y)
stays_ok R x y rel = record {
  faulty = λ fault other is. absurd (ok_is_no_err x fault is);
  good = λ z is. (y, refl, (let same : x ≡ z = cc in subst (λ t. R t y) same rel));
}

stays_err : {A B : Type 0} (R : A → B → Type 0) (e : TextFault) → Stays R (Err e) (Err e)
stays_err R e = record {
  faulty = λ fault other is. err_same e fault is;
  good = λ z is. absurd (err_is_no_ok e z is);
}

stays_truncated : {A B : Type 0} (R : A → B → Type 0) (after : Result B TextFault) → Stays R (Err Truncated) after
stays_truncated R after = record {
  faulty = λ fault other is. (let same : fault ≡ Truncated = cc in absurd (other same));
  good = λ z is. absurd (err_is_no_ok Truncated z is);
}

stays_same : {A : Type 0} (before after : Result A TextFault) → before ≡ after → Stays (λ x y. x ≡ y) before after
stays_same before after same = record {
  faulty = λ fault other is. sym same ∙ is;
  good = λ x is. (x, sym same ∙ is, refl);
}

stays_unless : {A B : Type 0} (R : A → B → Type 0) (b : Bool) (e : TextFault) (before : Result A TextFault) (after : Result B TextFault) → Stays R before after → Stays R (cond b (Err e) before) (cond b (Err e) after)
stays_unless R true e before after stays = stays_err R e
stays_unless R false e before after stays = stays

stays_bind : {A B C D : Type 0} (R : A → B → Type 0) (Q : C → D → Type 0) (before : Result A TextFault) (after : Result B TextFault) (f : A → Result C TextFault) (g : B → Result D TextFault) → Stays R before after → ((x : A) (y : B) → R x y → Stays Q (f x) (g y)) → Stays Q (before >>= f) (after >>= g)
stays_bind R Q (Ok x) after f g first second =
    let there = first.good x refl in
    let F : Result _ TextFault → Type 0 = λ r. Stays Q (f x) (r >>= g) in
    subst F (sym there.1) (second x there.0 there.2)
stays_bind R Q (Err e) after f g first second = record {
  faulty = λ fault other is. (
      let here : after ≡ Err fault = first.faulty fault other (err_same e fault is) in
      ap (λ r. r >>= g) here
      );
  good = λ z is. absurd (err_is_no_ok e z is);
}

-- which step failed, where a chain of two did
pub bind_err : {A B : Type 0} (r : Result A TextFault) (f : A → Result B TextFault) (fault : TextFault) → (r >>= f) ≡ Err fault → (r ≡ Err fault) ⊎ ((x : A) × (r ≡ Ok x) × (f x ≡ Err fault))
bind_err (Ok x) f fault is = inr (x, refl, is)
bind_err (Err e) f fault is = inl (err_same e fault is)

-- the first line is the same, and the parts behind it go on
abbrev LineStays : Line → Line → Type 0
LineStays l m = (l.line ≡ m.line) × GoesOn l.rest m.rest

line_parts : (lines : List (List ℕ)) (last more : List ℕ) (others : List (List ℕ)) → Stays LineStays (line_of (lines ++ last ∷ [])) (line_of (lines ++ (last ++ more) ∷ others))
unfolding line_of
line_parts [] last more others = stays_truncated LineStays _
line_parts (line ∷ lines) last more others =
    let some = some_more (lines ++ last ∷ []) (omega (arith, length-append lines (last ∷ []))) in
    let some_on = some_more (lines ++ (last ++ more) ∷ others) (omega (arith, length-append lines ((last ++ more) ∷ others))) in
    rw (some, some_on) (stays_ok LineStays _ _ (refl, record { lines = lines; last = last; more = more; others = others; front = refl; whole = refl }))

line_stays : (ps qs : List (List ℕ)) → GoesOn ps qs → Stays LineStays (line_of ps) (line_of qs)
line_stays ps qs on =
    let F : List (List ℕ) → Type 0 = λ l. Stays LineStays (line_of l) (line_of qs) in
    let G : List (List ℕ) → Type 0 = λ l. Stays LineStays (line_of (on.lines ++ on.last ∷ [])) (line_of l) in
    subst F (sym on.front) (subst G (sym on.whole) (line_parts on.lines on.last on.more on.others))

-- the heading is the same, and the parts behind it go on
abbrev HeadingStays : Heading → Heading → Type 0
HeadingStays h k = (h.is_second ≡ k.is_second) × (h.version ≡ k.version) × GoesOn h.rest k.rest

heading_made : (b c : Bool) (v w : ℕ) (ps qs : List (List ℕ)) → b ≡ c → v ≡ w → GoesOn ps qs → Stays HeadingStays (cond (ltb (2 ^ 63) v) (Err TooLarge) (Ok (record { is_second = b; version = v; rest = ps }))) (cond (ltb (2 ^ 63) w) (Err TooLarge) (Ok (record { is_second = c; version = w; rest = qs })))
heading_made b c v w ps qs form version on =
    rw (form, version) (stays_unless HeadingStays (ltb (2 ^ 63) w) TooLarge _ _ (stays_ok HeadingStays (record { is_second = c; version = w; rest = ps }) (record { is_second = c; version = w; rest = qs }) (refl, refl, on)))

heading_stays : (word : List ℕ) (ps qs : List (List ℕ)) → GoesOn ps qs → Stays HeadingStays (heading_at word ps) (heading_at word qs)
unfolding heading_at
heading_stays word ps qs on =
    stays_bind LineStays HeadingStays (line_of ps) (line_of qs) _ _ (line_stays ps qs on) (λ l m first.
    stays_bind (λ x y. x ≡ y) HeadingStays (ok_or (form_of word (parts 32 l.line)) (BadLine 1)) (ok_or (form_of word (parts 32 m.line)) (BadLine 1)) _ _ (stays_same _ _ (ap (λ t. ok_or (form_of word (parts 32 t)) (BadLine 1)) first.0)) (λ b c form.
    stays_bind LineStays HeadingStays (line_of l.rest) (line_of m.rest) _ _ (line_stays l.rest m.rest first.1) (λ k n second.
    stays_bind (λ x y. x ≡ y) HeadingStays (ok_or (version_of (parts 32 k.line)) (BadLine 2)) (ok_or (version_of (parts 32 n.line)) (BadLine 2)) _ _ (stays_same _ _ (ap (λ t. ok_or (version_of (parts 32 t)) (BadLine 2)) second.0)) (λ v w version.
    heading_made b c v w k.rest n.rest form version second.1))))

nothing_stays : (lines : List (List ℕ)) (last more : List ℕ) (others : List (List ℕ)) → is_nothing (lines ++ last ∷ []) ≡ false → is_nothing (lines ++ (last ++ more) ∷ others) ≡ false
unfolding is_nothing
nothing_stays [] [] more others is = cc
nothing_stays [] (b ∷ last) more [] is = grind (arith, nat_tests)
nothing_stays [] (b ∷ last) more (other ∷ others) is = refl
nothing_stays (line ∷ []) last more others is = refl
nothing_stays (line ∷ next ∷ lines) last more others is = refl

end_stays : {D : Type 0} (format : Format D) (n : ℕ) (draft : D) (lines : List (List ℕ)) (last more : List ℕ) (others : List (List ℕ)) (fault : TextFault) → end_at format n draft (lines ++ last ∷ []) ≡ Err fault → end_at format n draft (lines ++ (last ++ more) ∷ others) ≡ Err fault
unfolding end_at
end_stays format n draft lines last more others fault is = elim (either (not (format.may_end draft)) _ _ _ is) [
  | inl needless ↦ rw needless.0 needless.1
  | inr lawful ↦
      elim (either (is_nothing (lines ++ last ∷ [])) _ _ _ lawful.1) [
        | inl nothing ↦ absurd (ok_is_no_err draft fault nothing.1)
        | inr behind ↦ rw (lawful.0, nothing_stays lines last more others behind.0) behind.1
      ]
]

body_stays : {D : Type 0} (format : Format D) (lines : List (List ℕ)) (last more : List ℕ) (others : List (List ℕ)) (n : ℕ) (draft : D) (fault : TextFault) → fault ≢ Truncated → body_at format n draft (lines ++ last ∷ []) ≡ Err fault → body_at format n draft (lines ++ (last ++ more) ∷ others) ≡ Err fault
unfolding body_at
body_stays format [] last more others n draft fault other is = let same : fault ≡ Truncated = cc in absurd (other same)
body_stays format (line ∷ lines) last more others n draft fault other is =
    let some = some_more (lines ++ last ∷ []) (omega (arith, length-append lines (last ∷ []))) in
    let some_on = some_more (lines ++ (last ++ more) ∷ others) (omega (arith, length-append lines ((last ++ more) ∷ others))) in
    let whole = rw some at is in
    elim (either (bytes_eq line (codes "end")) _ _ _ whole) [
      | inl end ↦ rw (some_on, end.0) (end_stays format n draft lines last more others fault end.1)
      | inr add ↦
          elim (bind_err (format.add n draft (parts 32 line)) _ fault add.1) [
            | inl failed ↦ rw (some_on, add.0, failed) refl
            | inr next ↦ rw (some_on, add.0, next.1) (body_stays format lines last more others (n + 1) next.0 fault other next.2)
          ]
    ]

body_goes_on : {D : Type 0} (format : Format D) (n : ℕ) (draft : D) (ps qs : List (List ℕ)) (fault : TextFault) → GoesOn ps qs → fault ≢ Truncated → body_at format n draft ps ≡ Err fault → body_at format n draft qs ≡ Err fault
body_goes_on format n draft ps qs fault on other is =
    let here : body_at format n draft (on.lines ++ on.last ∷ []) ≡ Err fault = ap (body_at format n draft) (sym on.front) ∙ is in
    ap (body_at format n draft) on.whole ∙ body_stays format on.lines on.last on.more on.others n draft fault other here

body_of_heading : {D : Type 0} (format : Format D) (h k : Heading) (fault : TextFault) → HeadingStays h k → fault ≢ Truncated → body_at format 3 (format.start h.is_second h.version) h.rest ≡ Err fault → body_at format 3 (format.start k.is_second k.version) k.rest ≡ Err fault
body_of_heading format h k fault alike other is =
    rw (← alike.0, ← alike.1) (body_goes_on format 3 (format.start h.is_second h.version) h.rest k.rest fault alike.2 other is)

-- a fault of a text of any format stays, whatever follows the text
pub reading_stays : {D : Type 0} (format : Format D) (front rest : List ℕ) (fault : TextFault) → fault ≢ Truncated → reading format front ≡ Err fault → reading format (front ++ rest) ≡ Err fault
unfolding reading
reading_stays format front rest fault other is =
    let heading = heading_stays format.word (parts 10 front) (parts 10 (front ++ rest)) (parts_go_on 10 front rest) in
    elim (bind_err (heading_at format.word (parts 10 front)) _ fault is) [
      | inl failed ↦ rw (heading.faulty fault other failed) refl
      | inr read ↦
          let there = heading.good read.0 read.1 in
          rw there.1 (body_of_heading format read.0 there.0 fault there.2 other read.2)
    ]

-- a fault of a plan's text stays, whatever follows the text
pub plan_fault_stays : (front rest : List ℕ) (fault : TextFault) → fault ≢ Truncated → plan_of_text front ≡ Err fault → plan_of_text (front ++ rest) ≡ Err fault
unfolding plan_of_text
plan_fault_stays front rest fault other is = elim (bind_err (reading plan_format front) _ fault is) [
  | inl failed ↦ rw (reading_stays plan_format front rest fault other failed) refl
  | inr read ↦ absurd (ok_is_no_err read.0.plan fault read.2)
]

-- each text that a plan's text goes on from is truncated
pub plan_begun : (plan : PlanParts) (front rest : List ℕ) → IsPlan plan → rest ≢ [] → spelling plan ≡ front ++ rest → plan_of_text front ≡ Err Truncated
unfolding plan_of_text
plan_begun plan front rest kept more begins = told (plan_of_text front) refl
  where
    again : plan_of_text (front ++ rest) ≡ Ok plan
    again = ap plan_of_text (sym begins) ∙ rw (plan_again plan kept) refl

    no_other : (fault : TextFault) → fault ≢ Truncated → plan_of_text front ≡ Err fault → ⊥
    no_other fault other is = ok_is_no_err plan fault (sym again ∙ plan_fault_stays front rest fault other is)

    no_plan : (p : PlanParts) → plan_of_text front ≡ Ok p → ⊥
    no_plan p is =
        let read = bind_ok (reading plan_format front) _ p is in
        let found = plan_found front read.0 read.1 in
        more (plan_alone read.0.plan plan rest found.0 kept (begins ∙ ap (λ t. t ++ rest) found.1)).1

    told : (r : Result PlanParts TextFault) → plan_of_text front ≡ r → plan_of_text front ≡ Err Truncated
    told (Ok p) is = absurd (no_plan p is)
    told (Err Truncated) is = is
    told (Err (BadLine n)) is = absurd (no_other (BadLine n) (λ e. cc) is)
    told (Err TooLarge) is = absurd (no_other TooLarge (λ e. cc) is)
    told (Err NotCanonical) is = absurd (no_other NotCanonical (λ e. cc) is)
