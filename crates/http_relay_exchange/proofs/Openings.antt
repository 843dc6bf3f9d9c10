-- What a server took with the dial, and what is left of the head.
use Rattle.std.proofs.Common.{◌≡◌, ℕ, ◌<◌, ◌≤◌, ◌==◌, Bool, true, false, ◌||◌, not, cond, List, [], ◌++◌, length, take, drop, take-append-drop, Result, Ok, Err, IsErrAnd, refl, sym, subst, ◌∙◌, ap, arith}
use Rattle.std.proofs.lemmas.Bool.{cond_both, ne_eqb}
use Rattle.std.proofs.lemmas.List.{length-take-le}
use Rattle.std.specs.Io.KnownBytes.{append_known}
use Rattle.http_relay_wire.specs.Wires.{AppendsBeginning}
use Rattle.http_relay_wire.specs.Faults.{after_write_fault}
use Rattle.http_relay_wire.specs.declared.fault.WireFault.{WireFault}
use Rattle.http_relay_wire.proofs.KnownBytes.{append_twice}
use Rattle.http_relay_body.proofs.Lines.{empty}
use Rattle.http_relay_body.proofs.Moves.{append_nothing, begins_later}
use Rattle.http_relay_dial.specs.Dials.{Talk}
use Rattle.http_relay_exchange.specs.Requests.{OutgoingView, opening}
use Rattle.http_relay_exchange.specs.Exchanges.{Began, wrote, FailsToWrite}
use Rattle.http_relay_body.specs.declared.front.BodyFront.{BodyFront}
use Rattle.http_relay_exchange.specs.Headings.{SendsBoth, SendsHead}
use Rattle.http_relay_exchange.specs.declared.fault.SendFault.{SendFault}
use Rattle.http_relay_exchange.proofs.Joined.{talk_same}

-- ---- the opening

nothing_before : (head : List ℕ) (taken : ℕ) → taken ≡ 0 → take taken [] ++ drop taken head ≡ head
nothing_before head taken none = ap (λ n. take n [] ++ drop n head) none

-- what was taken, and the rest of the head
pub head_parted : (request : OutgoingView) (taken : ℕ) → taken ≤ length (opening request)
    → take taken (opening request) ++ drop taken request.head ≡ request.head
head_parted request taken = cond_both (request.expects_continue || not (length request.behind == 0)) [] request.head
    (λ (xs : List ℕ). taken ≤ length xs → take taken xs ++ drop taken request.head ≡ request.head)
    (λ e. λ within. nothing_before request.head taken (omega (arith, within)))
    (λ e. λ within. take-append-drop taken request.head)

-- the opening has no more bytes than the head
pub opening_within : (request : OutgoingView) → length (opening request) ≤ length request.head
opening_within request = cond_both (request.expects_continue || not (length request.behind == 0)) [] request.head
    (λ (xs : List ℕ). length xs ≤ length request.head) (λ e. omega arith) (λ e. omega arith)

or_true : (b : Bool) → (b || true) ≡ true
or_true true = refl
or_true false = refl

-- where bytes of a body came, nothing is taken
pub none_with_body : (request : OutgoingView) → 0 < length request.behind → opening request ≡ []
none_with_body request some =
    ap (λ none. cond (request.expects_continue || not none) [] request.head) (ne_eqb (length request.behind) 0 (λ e. omega (arith, some, e)))
    ∙ ap (λ b. cond b [] request.head) (or_true request.expects_continue)

-- where the client waits to be told to go on, nothing is taken
pub none_before_continue : (request : OutgoingView) → request.expects_continue ≡ true → opening request ≡ []
none_before_continue request waits = ap (λ b. cond (b || not (length request.behind == 0)) [] request.head) waits

-- ---- connections

nothing_wrote : (talk : Talk) → wrote talk [] ≡ talk
nothing_wrote talk = ap (λ w. record talk { written = w }) (append_nothing talk.written)

-- a connection that took nothing is as it was
pub began_with_nothing : (request : OutgoingView) (taken : ℕ) (before now : Talk) → opening request ≡ [] → Began request taken before now → now ≡ before
began_with_nothing request taken before now none (within, is) =
    let size : length (take taken (opening request)) ≡ 0 = omega (arith, length-take-le taken (opening request) within, within, ap (λ (xs : List ℕ). length xs) none) in
    is ∙ ap (wrote before) (empty (take taken (opening request)) size) ∙ nothing_wrote before

-- the rest of the head went out
pub rest_written : (request : OutgoingView) (taken : ℕ) (before old new : Talk) → Began request taken before old
    → new.written ≡ append_known old.written (drop taken request.head) → new.reading ≡ old.reading → new.faults ≡ old.faults
    → new ≡ wrote (wrote before request.head) []
rest_written request taken before old new (within, is) written reading faults =
    let grown : new.written ≡ append_known before.written request.head =
    written ∙ ap (λ (t : Talk). append_known t.written (drop taken request.head)) is
    ∙ append_twice before.written (take taken (opening request)) (drop taken request.head)
    ∙ ap (append_known before.written) (head_parted request taken within) in
    talk_same new.written (append_known before.written request.head) new.reading before.reading new.faults before.faults
    grown (reading ∙ ap (λ (t : Talk). t.reading) is) (faults ∙ ap (λ (t : Talk). t.faults) is)
    ∙ sym (nothing_wrote (wrote before request.head))

-- a write failed in the rest of the head
pub rest_unwritten : (request : OutgoingView) (taken : ℕ) (fault : WireFault) (before old new : Talk) → Began request taken before old
    → AppendsBeginning old.written new.written (drop taken request.head) → new.reading ≡ old.reading → new.faults ≡ after_write_fault fault old.faults
    → FailsToWrite request.head fault before new
rest_unwritten request taken fault before old new (within, is) begins reading faults =
    let all = begins_later before.written old.written new.written (take taken (opening request)) (drop taken request.head)
    (ap (λ (t : Talk). t.written) is) begins in (
      new.written,
      subst (λ xs. AppendsBeginning before.written new.written xs) (head_parted request taken within) all,
      talk_same new.written new.written new.reading before.reading new.faults (after_write_fault fault before.faults)
          refl (reading ∙ ap (λ (t : Talk). t.reading) is) (faults ∙ ap (λ (t : Talk). after_write_fault fault t.faults) is),
    )

-- ---- a head with the front of its body

-- a question mark hands on that a write of these failed
pub both_handed : (request : OutgoingView) (len : ℕ) (head front : List ℕ) (before old new : Talk) (answer : Result BodyFront SendFault) (fault : SendFault)
    → head ≡ request.head → front ≡ take len request.behind → old ≡ before → IsErrAnd answer (λ told. told ≡ fault)
    → SendsBoth head front old new (Err fault) → SendsHead request before new answer
both_handed request len head front before old new (Ok value) fault head_is front_is old_is none failed = absurd none
both_handed request len head front before old new (Err told) fault head_is front_is old_is same failed =
    let of_head = subst (λ xs. SendsBoth xs front old new (Err fault)) head_is failed in
    let of_front = subst (λ xs. SendsBoth request.head xs old new (Err fault)) front_is of_head in
    let of_old = subst (λ talk. SendsBoth request.head (take len request.behind) talk new (Err fault)) old_is of_front in
    (len, subst (λ cause. SendsBoth request.head (take len request.behind) before new (Err cause)) (sym same) of_old)
