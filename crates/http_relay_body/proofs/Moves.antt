-- Parts that are moved one after another.
use Rattle.std.proofs.Common.{◌≡◌, ◌⊎◌, inl, inr, ℕ, ◌+◌, ◌-◌, ◌<◌, ◌≤◌, List, [], ◌∷◌, ◌++◌, length, length-append, replicate, take, Option, None, Some, Result, Ok, Err, IsErrAnd, refl, ap, sym, ◌∙◌, subst, arith, append_assoc, append-nil}
use Rattle.std.proofs.lemmas.List.{length-replicate}
use Rattle.std.specs.Io.KnownBytes.{prepend_known, append_known}
use Rattle.http_relay_wire.specs.Wires.{Reading, AppendsBeginning}
use Rattle.http_relay_wire.proofs.KnownBytes.{append_twice, prepend_twice, prepend_nothing}
use Rattle.http_relay_wire.specs.declared.fault.WireFault.{WireFault}
use Rattle.http_relay_body.specs.declared.fault.BodyFault.{BodyFault}
use Rattle.http_relay_body.specs.declared.fault.BodyFault.TheVariants.{Truncated, Client, Server, BadChunk}
use Rattle.http_relay_body.specs.Moves.{Taken, HasEnded, Begins, NeverBegins, MayBecome, Answers, Moved, IsLong, IsSome}

-- nothing is taken
pub take_nothing : (hand : List ℕ) (known : Option (List ℕ)) → Taken hand hand known known []
take_nothing hand known = record { more = []; read = sym (prepend_nothing known); parted = append-nil hand; in_turn = inl refl }

-- the end of nothing is nothing
empty_end : (front end : List ℕ) → front ++ end ≡ [] → end ≡ []
empty_end [] end none = none
empty_end (x ∷ front) end none = cc

in_turn_twice : (first second mid text left : List ℕ) → (first ≡ []) ⊎ (mid ≡ []) → (second ≡ []) ⊎ (left ≡ [])
    → mid ++ second ≡ text ++ left → (first ++ second ≡ []) ⊎ (left ≡ [])
in_turn_twice first second mid text left (inl a) (inl b) e = inl (ap (λ xs. xs ++ second) a ∙ b)
in_turn_twice first second mid text left (inr a) (inl b) e = inr (empty_end text left (sym e ∙ ap (λ xs. xs ++ second) a ∙ b))
in_turn_twice first second mid text left a (inr b) e = inr b

-- what is taken in two parts is taken
pub take_twice : (hand mid left : List ℕ) (a b c : Option (List ℕ)) (s t : List ℕ) → Taken hand mid a b s → Taken mid left b c t → Taken hand left a c (s ++ t)
take_twice hand mid left a b c s t x y = record {
  more = x.more ++ y.more;
  read = x.read ∙ ap (prepend_known x.more) y.read ∙ prepend_twice c x.more y.more;
  parted = sym (append_assoc hand x.more y.more) ∙ ap (λ xs. xs ++ y.more) x.parted ∙ append_assoc s mid y.more
      ∙ ap (λ xs. s ++ xs) y.parted ∙ sym (append_assoc s t left);
  in_turn = in_turn_twice x.more y.more mid t left x.in_turn y.in_turn y.parted;
}

pub append_nothing : (known : Option (List ℕ)) → append_known known [] ≡ known
append_nothing None = refl
append_nothing (Some xs) = ap Some (append-nil xs)

-- nothing is a beginning of all
pub begins_with_nothing : (known : Option (List ℕ)) (text : List ℕ) → AppendsBeginning known known text
begins_with_nothing known text = ([], text, refl, sym (append_nothing known))

-- all of the first part, and then a beginning of the second
pub begins_later : (before mid after : Option (List ℕ)) (s t : List ℕ) → mid ≡ append_known before s → AppendsBeginning mid after t → AppendsBeginning before after (s ++ t)
begins_later before mid after s t whole (front, rest, parted, grown) = (
  s ++ front,
  rest,
  ap (λ xs. s ++ xs) parted ∙ sym (append_assoc s front rest),
  grown ∙ ap (λ known. append_known known front) whole ∙ append_twice before s front,
)

-- all of both parts
pub appends_both : (before mid after : Option (List ℕ)) (s t : List ℕ) → mid ≡ append_known before s → after ≡ append_known mid t → after ≡ append_known before (s ++ t)
appends_both before mid after s t x y = y ∙ ap (λ known. append_known known t) x ∙ append_twice before s t

-- behind this text each later part is one of the whole, or its beginning
abbrev pub Finishes : {A B : Type 0} → (A → List ℕ → Type 0) → (B → List ℕ → Type 0) → List ℕ → Type 0
Finishes {A} {B} P Q s = (later : B) (rest : List ℕ) → Q later rest → (value : A) × (end : List ℕ) × P value (s ++ (rest ++ end))

-- what may become a later part may become the whole
may_later : {A B : Type 0} (P : A → List ℕ → Type 0) (Q : B → List ℕ → Type 0) (s t : List ℕ) → Finishes P Q s → MayBecome Q t → MayBecome P (s ++ t)
may_later P Q s t ends (later, more, part) =
    let (value, end, whole) = ends later (t ++ more) part in (
      value,
      more ++ end,
      subst (P value) (ap (λ xs. s ++ xs) (append_assoc t more end) ∙ sym (append_assoc s t (more ++ end))) whole,
    )

-- a part itself
pub finishes_same : {A : Type 0} (P : A → List ℕ → Type 0) → Finishes P P []
finishes_same P value rest part = (value, [], subst (P value) (sym (append-nil rest)) part)

-- a fault in a later part speaks of the whole
pub answers_later : {A B : Type 0} (P : A → List ℕ → Type 0) (Q : B → List ℕ → Type 0) (s t left : List ℕ) (reading : Reading) (fault : BodyFault)
    → ((rest : List ℕ) → Begins P (s ++ rest) → Begins Q rest) → Finishes P Q s → Answers Q t left reading (Err fault) → Answers P (s ++ t) left reading (Err fault)
answers_later P Q s t left reading Truncated skip ends x = (x.0, λ begins. x.1 (skip t begins), may_later P Q s t ends x.2)
answers_later P Q s t left reading BadChunk skip ends x = λ more begins. x more (skip (t ++ more) (subst (Begins P) (append_assoc s t more) begins))
answers_later P Q s t left reading (Client fault) skip ends x = (x.0, λ begins. x.1 (skip t begins), may_later P Q s t ends x.2)
answers_later P Q s t left reading (Server fault) skip ends x = tt

pub fault_later : {A B : Type 0} (P : A → List ℕ → Type 0) (Q : B → List ℕ → Type 0) (hand mid left : List ℕ) (old between new : Reading)
    (before mid_written after : Option (List ℕ)) (fault : BodyFault) (s : List ℕ)
    → Taken hand mid old.unread between.unread s → mid_written ≡ append_known before s
    → ((rest : List ℕ) → Begins P (s ++ rest) → Begins Q rest) → Finishes P Q s
    → Moved Q mid left between new mid_written after (Err fault) → Moved P hand left old new before after (Err fault)
fault_later P Q hand mid left old between new before mid_written after fault s taken sent skip ends later = record {
  text = s ++ later.text;
  taken = take_twice hand mid left old.unread between.unread new.unread s later.text taken later.taken;
  answers = answers_later P Q s later.text left new fault skip ends later.answers;
  sent = tt;
  beginning = begins_later before mid_written after s later.text sent later.beginning;
}

-- what a question mark hands on is the fault
pub told_err : {A : Type 0} (answer : Result A BodyFault) (fault : BodyFault) → IsErrAnd answer (λ told. told ≡ fault) → answer ≡ Err fault
told_err (Ok value) fault none = absurd none
told_err (Err told) fault same = ap Err same

-- a fault in a later part that is handed on speaks of the whole
pub fault_handed : {A B : Type 0} (P : A → List ℕ → Type 0) (Q : B → List ℕ → Type 0) (hand mid left : List ℕ) (old between new : Reading)
    (before mid_written after : Option (List ℕ)) (answer : Result A BodyFault) (fault : BodyFault) (s : List ℕ) → IsErrAnd answer (λ told. told ≡ fault)
    → Taken hand mid old.unread between.unread s → mid_written ≡ append_known before s
    → ((rest : List ℕ) → Begins P (s ++ rest) → Begins Q rest) → Finishes P Q s
    → Moved Q mid left between new mid_written after (Err fault) → Moved P hand left old new before after answer
fault_handed P Q hand mid left old between new before mid_written after answer fault s same taken sent skip ends later =
    subst (λ told. Moved P hand left old new before after told) (sym (told_err answer fault same))
    (fault_later P Q hand mid left old between new before mid_written after fault s taken sent skip ends later)

-- none of these bytes is missing while more are to come
pub skip_some : {A : Type 0} (count most : ℕ) (s : List ℕ) → length s < count → 0 < most → (rest : List ℕ) → Begins {A = A} (IsLong count) (s ++ rest) → Begins (IsSome most) rest
skip_some count most s short room [] (_, front, behind, size, parted) =
    let sizes = sym (length-append s []) ∙ ap length parted ∙ length-append front behind in
    absurd (omega (arith, short, size, sizes))
skip_some count most s short room (byte ∷ rest) begins = (1, byte ∷ [], rest, (refl, omega arith, omega (arith, room)), refl)

-- so many bytes more can follow
pub finishes_some : {A : Type 0} (value : A) (count most : ℕ) (s : List ℕ) → length s + most ≤ count → Finishes {A = A} (IsLong count) (IsSome most) s
finishes_some value count most s room size rest (is, some, within) =
    let end : List ℕ = replicate (count - (length s + length rest)) 0 in
    let sizes = length-append s (rest ++ end) in
    let ends = length-append rest end in
    let filled = length-replicate {A = ℕ} (count - (length s + length rest)) 0 in
    (value, end, omega (arith, sizes, ends, filled, room, is, within))

-- ---- the ends of a part

-- the part was taken and written
pub part_sent : {A : Type 0} (P : A → List ℕ → Type 0) (hand left : List ℕ) (old new : Reading) (before after : Option (List ℕ)) (value : A) (text : List ℕ)
    → Taken hand left old.unread new.unread text → P value text → after ≡ append_known before text → Moved P hand left old new before after (Ok value)
part_sent P hand left old new before after value text taken part sent =
    record { text = text; taken = taken; answers = part; sent = sent; beginning = tt }

-- no part can follow
pub part_refused : {A : Type 0} (P : A → List ℕ → Type 0) (hand left : List ℕ) (old new : Reading) (written : Option (List ℕ)) (text : List ℕ)
    → Taken hand left old.unread new.unread text → NeverBegins P text → Moved P hand left old new written written (Err BadChunk)
part_refused P hand left old new written text taken never =
    record { text = text; taken = taken; answers = never; sent = tt; beginning = begins_with_nothing written text }

-- the server failed
pub part_unsent : {A : Type 0} (P : A → List ℕ → Type 0) (hand left : List ℕ) (old new : Reading) (before after : Option (List ℕ)) (text : List ℕ) (fault : WireFault)
    → Taken hand left old.unread new.unread text → AppendsBeginning before after text → Moved P hand left old new before after (Err (Server fault))
part_unsent P hand left old new before after text fault taken beginning =
    record { text = text; taken = taken; answers = tt; sent = tt; beginning = beginning }

-- in nothing there is none of some bytes
pub nothing_some : (most : ℕ) → ¬ Begins (IsSome most) []
nothing_some most (count, front, rest, (size, some, within), parted) =
    let sizes = ap length parted ∙ length-append front rest in
    absurd (omega (arith, size, some, sizes))

-- but one may come
pub may_some : (most : ℕ) → 0 < most → MayBecome (IsSome most) []
may_some most room = (1, 0 ∷ [], (refl, omega arith, omega (arith, room)))

-- the client failed before the first of some bytes
pub none_came : (most : ℕ) (hand left : List ℕ) (old new : Reading) (written : Option (List ℕ)) (fault : WireFault)
    → 0 < most → Taken hand left old.unread new.unread [] → left ≡ [] → Moved (IsSome most) hand left old new written written (Err (Client fault))
none_came most hand left old new written fault room taken none =
    record { text = []; taken = taken; answers = (none, nothing_some most, may_some most room); sent = tt; beginning = begins_with_nothing written [] }

-- or it ended there
pub none_left : (most count : ℕ) (bytes hand left : List ℕ) (old new : Reading) (written : Option (List ℕ))
    → 0 < most → count ≡ 0 → Taken hand left old.unread new.unread (take count bytes) → HasEnded left new
    → Moved (IsSome most) hand left old new written written (Err Truncated)
none_left most count bytes hand left old new written room none taken ended =
    let nothing = subst (λ n. Taken hand left old.unread new.unread (take n bytes)) none taken in
    record { text = []; taken = nothing; answers = (ended, nothing_some most, may_some most room); sent = tt; beginning = begins_with_nothing written [] }

-- a later part was sent, and makes the whole
pub part_later : {A B : Type 0} (P : A → List ℕ → Type 0) (Q : B → List ℕ → Type 0) (hand mid left : List ℕ) (old between new : Reading)
    (before mid_written after : Option (List ℕ)) (value : A) (later_value : B) (s : List ℕ)
    → Taken hand mid old.unread between.unread s → mid_written ≡ append_known before s
    → ((rest : List ℕ) → Q later_value rest → P value (s ++ rest))
    → Moved Q mid left between new mid_written after (Ok later_value) → Moved P hand left old new before after (Ok value)
part_later P Q hand mid left old between new before mid_written after value later_value s taken sent joins later =
    part_sent P hand left old new before after value (s ++ later.text)
    (take_twice hand mid left old.unread between.unread new.unread s later.text taken later.taken)
    (joins later.text later.answers) (appends_both before mid_written after s later.text sent later.sent)
