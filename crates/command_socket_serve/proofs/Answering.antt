-- Commands answered one behind another.
use Rattle.std.proofs.Common.{◌≡◌, ℕ, ◌+◌, ◌<◌, Option, Result, Ok, List, [], ◌∷◌, ◌++◌, length, take, get_or, refl, sym, ap, subst, ◌∙◌, append_assoc, append-nil}
use Rattle.std.proofs.lemmas.List.{take_more}
use Rattle.lb_types_counted.specs.Writers.{WriterState}
use Rattle.lb_desk_ports.specs.Calls.{Grows}
use Rattle.command_socket_words.specs.declared.socket_command.SocketCommand.{SocketCommand}
use Rattle.command_socket_words.specs.declared.fault.CommandFault.{CommandFault}
use Rattle.command_socket_serve.specs.Answers.{Answers, looked_up}
use Rattle.command_socket_serve.specs.Consoles.{ConsoleView}
use Rattle.command_socket_serve.specs.Desks.{DeskSeen}
use Rattle.command_socket_serve.specs.Lines.{AreAnswered, empty_line, ended}
use Rattle.command_socket_serve.specs.Outcomes.{Does, Outcome, PrintsOn, both, no_outcome}
use Rattle.command_socket_serve.proofs.Printings.{prints_none, prints_then}
use Rattle.command_socket_serve.proofs.Telling.{grows_more, grows_none}

outcome_is : (a b : Outcome) → a.text ≡ b.text → a.changed ≡ b.changed → a ≡ b
outcome_is a b text changed =
    let C : List ℕ → Type 0 = λ c. a ≡ record { text = a.text; changed = c } in
    let T : List ℕ → Type 0 = λ t. a ≡ record { text = t; changed = b.changed } in
    subst T text (subst C changed refl)

both_none : (a : Outcome) → both a no_outcome ≡ a
both_none a = outcome_is (both a no_outcome) a (append-nil a.text) (append-nil a.changed)

both_assoc : (a b c : Outcome) → both (both a b) c ≡ both a (both b c)
both_assoc a b c =
    outcome_is (both (both a b) c) (both a (both b c)) (append_assoc a.text b.text c.text) (append_assoc a.changed b.changed c.changed)

module _ {D : Type 0} (seen : D → DeskSeen) (console : ConsoleView) where
  -- one command more
  answered_more : (commands : List (Result SocketCommand CommandFault)) (said : Result SocketCommand CommandFault) (desks between used : List D)
      (before last : Outcome) → AreAnswered seen console commands desks between before
      → Answers seen console (looked_up console.config said) between used last
      → AreAnswered seen console (commands ++ said ∷ []) desks used (both before (ended last))
  answered_more [] said desks between used before last (same, none) answers =
      let whole : both before (ended last) ≡ both (ended last) no_outcome =
      ap (λ (o : Outcome). both o (ended last)) none ∙ sym (both_none (ended last)) in
      let here = subst (λ (ds : List D). Answers seen console (looked_up console.config said) ds used last) same answers in
      (used, last, no_outcome, whole, here, (refl, refl))
  answered_more (command ∷ more) said desks between used before last (mid, first, rest, is, answer, others) answers =
      let whole : both before (ended last) ≡ both (ended first) (both rest (ended last)) =
      ap (λ (o : Outcome). both o (ended last)) is ∙ both_assoc (ended first) rest (ended last) in
      (mid, first, both rest (ended last), whole, answer, answered_more more said mid between used rest last others answers)

  -- no command yet
  pub does_none : {E : Type 0} (told : Option (List ℕ)) (out : WriterState) (sent : Result (Unit {0}) E) (desks : List D)
      → Does (AreAnswered seen console [] desks desks) told told out sent out sent
  does_none told out sent desks = record { outcome = no_outcome; is = (refl, refl); told = grows_none told; prints = prints_none out sent }

  module _ {E : Type 0} (told : Option (List ℕ)) (out : WriterState) where
    -- one command more, and the end of its answer
    pub does_more : (commands : List (Result SocketCommand CommandFault)) (i : ℕ) (said : Result SocketCommand CommandFault) (desks between used : List D)
        (told_mid told_new : Option (List ℕ)) (mid next new : WriterState) (printed answered sent : Result (Unit {0}) E)
        → i < length commands → said ≡ get_or commands i said
        → Does (AreAnswered seen console (take i commands) desks between) told told_mid out (Ok tt) mid printed
        → Does (Answers seen console (looked_up console.config said) between used) told_mid told_new mid printed next answered
        → PrintsOn next answered new sent empty_line
        → Does (AreAnswered seen console (take (i + 1) commands) desks used) told told_new out (Ok tt) new sent
    does_more commands i said desks between used told_mid told_new mid next new printed answered sent within here before last end =
        let longer : take (i + 1) commands ≡ take i commands ++ said ∷ [] =
        take_more commands i said within ∙ ap (λ (c : Result SocketCommand CommandFault). take i commands ++ c ∷ []) (sym here) in
        let told_all = grows_more told told_mid told_new before.outcome.changed (last.outcome.changed ++ []) before.told
        (subst (λ (ts : List ℕ). Grows told_mid told_new ts) (sym (append-nil last.outcome.changed)) last.told) in
        record {
          outcome = both before.outcome (ended last.outcome);
          is =
              subst (λ (cs : List (Result SocketCommand CommandFault)). AreAnswered seen console cs desks used (both before.outcome (ended last.outcome)))
              (sym longer) (answered_more (take i commands) said desks between used before.outcome last.outcome before.is last.is);
          told = told_all;
          prints =
              prints_then out mid new (Ok tt) printed sent before.outcome.text (last.outcome.text ++ empty_line) before.prints
              (prints_then mid next new printed answered sent last.outcome.text empty_line last.prints end);
        }
