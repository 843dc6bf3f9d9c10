-- What an answer says of the bytes that were not taken.
use Rattle.std.proofs.Common.{◌≡◌, ℕ, List, [], ◌++◌, append_assoc, append-nil, Option, None, Some, IfSome, Result, Ok, Err, refl, ap, sym, ◌∙◌, subst}
use Rattle.std.specs.Io.KnownBytes.{prepend_known, IsAtEnd}
use Rattle.http_relay_wire.specs.Wires.{Reading}
use Rattle.http_relay_forward.specs.declared.framing.BodyKind.{BodyKind}
use Rattle.http_relay_body.specs.declared.fault.BodyFault.{BodyFault}
use Rattle.http_relay_body.specs.declared.fault.BodyFault.TheVariants.{Truncated, Client, Server, BadChunk}
use Rattle.http_relay_body.specs.Moves.{Begins, Answers, Moved}
use Rattle.http_relay_body.specs.Bodies.{IsBody, BeginsWithBody, MayBecomeBody, JudgesInput}

begins_so : (kind : BodyKind) (input : List ℕ) → BeginsWithBody kind input → Begins {A = Unit {0}} (λ _ text. IsBody kind text) input
begins_so kind input (body, rest, is, parted) = (tt, body, rest, is, parted)

-- the text, and what was not taken behind it
judges_text : (kind : BodyKind) (text left rest : List ℕ) (reading : Reading) (answer : Result (Unit {0}) BodyFault)
    → reading.unread ≡ Some rest → Answers (λ _ part. IsBody kind part) text left reading answer → JudgesInput kind (text ++ (left ++ rest)) answer
judges_text kind text left rest reading (Ok value) known says = (text, left ++ rest, says, refl)
judges_text kind text left rest reading (Err BadChunk) known says = λ begins. says (left ++ rest) (begins_so kind (text ++ (left ++ rest)) begins)
judges_text kind text left rest reading (Err Truncated) known says =
    let none : rest ≡ [] = subst IsAtEnd known says.0.1 in
    let all : text ++ (left ++ rest) ≡ text = ap (λ xs. text ++ (left ++ xs)) none ∙ ap (λ xs. text ++ (xs ++ [])) says.0.0 ∙ append-nil text in
    ((λ begins. says.1 (begins_so kind text (subst (BeginsWithBody kind) all begins))), subst (MayBecomeBody kind) (sym all) (says.2.1, says.2.2))
judges_text kind text left rest reading (Err (Client fault)) known says = tt
judges_text kind text left rest reading (Err (Server fault)) known says = tt

judges_unread : (kind : BodyKind) (hand left more text : List ℕ) (known : Option (List ℕ)) (reading : Reading) (answer : Result (Unit {0}) BodyFault)
    → reading.unread ≡ known → hand ++ more ≡ text ++ left → Answers (λ _ part. IsBody kind part) text left reading answer
    → IfSome (prepend_known more known) (λ input. JudgesInput kind (hand ++ input) answer)
judges_unread kind hand left more text None reading answer is parted says = tt
judges_unread kind hand left more text (Some rest) reading answer is parted says =
    let whole : text ++ (left ++ rest) ≡ hand ++ (more ++ rest) = sym (append_assoc text left rest) ∙ ap (λ xs. xs ++ rest) (sym parted) ∙ append_assoc hand more rest in
    subst (λ input. JudgesInput kind input answer) whole (judges_text kind text left rest reading answer is says)

-- what is said of the text that was taken says this of the whole input
pub judges_input : (kind : BodyKind) (hand left : List ℕ) (old new : Reading) (before after : Option (List ℕ)) (answer : Result (Unit {0}) BodyFault)
    → Moved (λ _ text. IsBody kind text) hand left old new before after answer → IfSome old.unread (λ input. JudgesInput kind (hand ++ input) answer)
judges_input kind hand left old new before after answer moved =
    subst (λ known. IfSome known (λ input. JudgesInput kind (hand ++ input) answer)) (sym moved.taken.read)
    (judges_unread kind hand left moved.taken.more moved.text new.unread new answer refl moved.taken.parted moved.answers)
