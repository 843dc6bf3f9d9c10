-- A head and the front of its body, in the same writes.
use Rattle.std.proofs.Common.{◌≡◌, ℕ, ◌+◌, ◌-◌, ◌≤◌, List, [], ◌++◌, length, take, drop, take-append-drop, Option, refl, sym, subst, ◌∙◌, ap, arith, append_assoc}
use Rattle.std.proofs.lemmas.List.{take-take, drop-drop, length-take-le}
use Rattle.std.proofs.Math.Seq.{take-add}
use Rattle.std.specs.Io.KnownBytes.{append_known}
use Rattle.http_relay_forward.specs.declared.framing.BodyKind.{BodyKind}
use Rattle.http_relay_wire.specs.Wires.{Reading, AppendsBeginning}
use Rattle.http_relay_wire.proofs.KnownBytes.{append_twice}
use Rattle.http_relay_wire.specs.Faults.{after_write_fault}
use Rattle.http_relay_wire.specs.declared.fault.WireFault.{WireFault}
use Rattle.http_relay_wire.specs.declared.fault.FaultCounts.{FaultCounts}
use Rattle.http_relay_body.specs.Bodies.{IsFront}
use Rattle.http_relay_body.specs.declared.front.BodyFront.{BodyFront}
use Rattle.http_relay_body.proofs.Fronts.{behind, behind_is}
use Rattle.http_relay_body.proofs.Lines.{empty}
use Rattle.http_relay_body.proofs.Moves.{append_nothing}
use Rattle.http_relay_dial.specs.Dials.{Talk}
use Rattle.http_relay_exchange.specs.Requests.{OutgoingView}
use Rattle.http_relay_exchange.specs.Exchanges.{wrote, FailsToWrite}

-- ---- connections by their parts

abbrev pub talk_with : Option (List ℕ) → Reading → FaultCounts → Talk
talk_with written reading faults = record { written = written; reading = reading; faults = faults }

pub talk_same : (a b : Option (List ℕ)) (c d : Reading) (e f : FaultCounts) → a ≡ b → c ≡ d → e ≡ f → talk_with a c e ≡ talk_with b d f
talk_same a b c d e f written reading faults =
    ap (λ x. talk_with x c e) written ∙ ap (λ x. talk_with b x e) reading ∙ ap (λ x. talk_with b d x) faults

-- ---- what went out

-- more of the bytes
pub wrote_more : (old mid new : Option (List ℕ)) (bytes : List ℕ) (sent count : ℕ) → mid ≡ append_known old (take sent bytes)
    → new ≡ append_known mid (take count (behind sent bytes)) → new ≡ append_known old (take (sent + count) bytes)
wrote_more old mid new bytes sent count first more =
    more ∙ ap (λ xs. append_known mid (take count xs)) (behind_is sent bytes) ∙ ap (λ known. append_known known (take count (drop sent bytes))) first
    ∙ append_twice old (take sent bytes) (take count (drop sent bytes)) ∙ ap (append_known old) (sym (take-add sent count bytes))

-- a head, and nothing of its body
pub head_alone : (head bytes : List ℕ) (len : ℕ) (written sent : Option (List ℕ)) (reading after : Reading) (faults counts : FaultCounts)
    → len ≡ 0 → sent ≡ append_known written head → after ≡ reading → counts ≡ faults
    → talk_with sent after counts ≡ wrote (wrote (talk_with written reading faults) head) (take len bytes)
head_alone head bytes len written sent reading after faults counts none all reading_is faults_are =
    let nothing : take len bytes ≡ [] = empty (take len bytes) (length-take-le len bytes (omega (arith, none)) ∙ none) in
    let both = all ∙ sym (append_nothing (append_known written head)) ∙ ap (append_known (append_known written head)) (sym nothing) in
    talk_same sent (append_known (append_known written head) (take len bytes)) after reading counts faults both reading_is faults_are

-- a write failed inside the head
pub head_unwritten : (bytes : List ℕ) (head sent : ℕ) (fault : WireFault) (old new : Option (List ℕ)) (reading after : Reading) (faults counts : FaultCounts)
    → sent ≤ head → new ≡ append_known old (take sent bytes) → after ≡ reading → counts ≡ after_write_fault fault faults
    → FailsToWrite (take head bytes) fault (talk_with old reading faults) (talk_with new after counts)
head_unwritten bytes head sent fault old new reading after faults counts within written reading_is faults_are =
    let front = take sent bytes in
    let rest = drop sent (take head bytes) in
    let parted : take head bytes ≡ front ++ rest = sym (take-append-drop sent (take head bytes)) ∙ ap (λ xs. xs ++ rest) (take-take sent head bytes within) in (
      new,
      (front, rest, parted, written),
      talk_same new new after reading counts (after_write_fault fault faults) refl reading_is faults_are,
    )

-- a write failed behind the head
pub front_unwritten : (bytes : List ℕ) (head sent : ℕ) (fault : WireFault) (old mid new : Option (List ℕ)) (reading after : Reading) (faults counts : FaultCounts)
    → head ≤ sent → mid ≡ append_known old (take sent bytes) → AppendsBeginning mid new (behind sent bytes)
    → after ≡ reading → counts ≡ after_write_fault fault faults
    → FailsToWrite (drop head bytes) fault (wrote (talk_with old reading faults) (take head bytes)) (talk_with new after counts)
front_unwritten bytes head sent fault old mid new reading after faults counts past first (front, rest, parted, written) reading_is faults_are =
    let between = take (sent - head) (drop head bytes) in
    let at : head + (sent - head) ≡ sent = omega (arith, past) in
    let taken : take sent bytes ≡ take head bytes ++ between = ap (λ n. take n bytes) (sym at) ∙ take-add head (sent - head) bytes in
    let skipped : drop (sent - head) (drop head bytes) ≡ drop sent bytes = drop-drop (sent - head) head bytes ∙ ap (λ n. drop n bytes) at in
    let whole : drop head bytes ≡ (between ++ front) ++ rest =
    sym (take-append-drop (sent - head) (drop head bytes)) ∙ ap (λ xs. between ++ xs) (skipped ∙ sym (behind_is sent bytes) ∙ parted) ∙ sym (append_assoc between front rest) in
    let grown : new ≡ append_known (append_known old (take head bytes)) (between ++ front) =
    written ∙ ap (λ known. append_known known front) (first ∙ ap (append_known old) taken)
    ∙ append_twice old (take head bytes ++ between) front
    ∙ ap (append_known old) (append_assoc (take head bytes) between front)
    ∙ sym (append_twice old (take head bytes) (between ++ front)) in (
      new,
      (between ++ front, rest, whole, grown),
      talk_same new new after reading counts (after_write_fault fault faults) refl reading_is faults_are,
    )

-- ---- the front of the body

-- what was found in the first bytes behind the head is a front of the body
pub front_of : (request : OutgoingView) (kind : BodyKind) (bytes : List ℕ) (most : ℕ) (front : BodyFront) → kind ≡ request.kind → bytes ≡ request.behind
    → most ≤ length bytes → front.len ≤ length (take most bytes) → IsFront kind (take front.len (take most bytes)) front.rest
    → (front.len ≤ length request.behind) × IsFront request.kind (take front.len request.behind) front.rest
front_of request kind bytes most front kind_is bytes_are fits within is =
    let size = length-take-le most bytes fits in
    let few : front.len ≤ most = omega (arith, within, size) in
    let here : IsFront kind (take front.len bytes) front.rest = subst (λ xs. IsFront kind xs front.rest) (take-take front.len most bytes few) is in
    let of_kind : IsFront request.kind (take front.len bytes) front.rest = subst (λ k. IsFront k (take front.len bytes) front.rest) kind_is here in (
      subst (λ xs. front.len ≤ length xs) bytes_are (omega (arith, few, fits)),
      subst (λ xs. IsFront request.kind (take front.len xs) front.rest) bytes_are of_kind,
    )
