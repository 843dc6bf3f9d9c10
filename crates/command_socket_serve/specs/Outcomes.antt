-- What commands come to beside the events at desks: what is printed, and where changes were made.
use Rattle.std.specs.Prelude.{◌≡◌, ℕ, List, [], ◌++◌, Option, Result, Ok, Err}
use Rattle.std.specs.Io.KnownBytes.{Appends}
use Rattle.lb_types_counted.specs.Writers.{WriterState, AppendsFront, Rises}
use Rattle.lb_desk_ports.specs.Calls.{Grows}

pub record Outcome : Type 0 where
  -- what is printed
  pub text : List ℕ
  -- the backends at which a change was made, by their places
  pub changed : List ℕ

abbrev pub no_outcome : Outcome
no_outcome = record { text = []; changed = [] }

-- the text is printed, and nothing is changed
abbrev pub only_text : List ℕ → Outcome
only_text text = record { text = text; changed = [] }

-- one outcome behind another
abbrev pub both : Outcome → Outcome → Outcome
both first second = record { text = first.text ++ second.text; changed = first.changed ++ second.changed }

-- a write failed somewhere within the text: what stands before that piece went out whole, and a beginning of what is left
pub record FailsWithin (old new : WriterState) (text : List ℕ) : Type 0 where
  pub whole : List ℕ
  pub left : List ℕ
  pub middle : WriterState
  pub split : text ≡ whole ++ left
  pub went : Appends old.contents middle.contents whole
  pub failed : Rises middle.failures new.failures
  pub front : AppendsFront middle.contents new.contents left

-- the text went out whole, or a write failed within it
abbrev pub Prints : {E : Type 0} → WriterState → WriterState → Result (Unit {0}) E → List ℕ → Type 0
Prints old new (Ok _) text = Appends old.contents new.contents text
Prints old new (Err e) text = FailsWithin old new text

-- the same behind what was printed before: once a write failed, nothing more is printed
abbrev pub PrintsOn : {E : Type 0} → WriterState → Result (Unit {0}) E → WriterState → Result (Unit {0}) E → List ℕ → Type 0
PrintsOn old (Ok _) new sent text = Prints old new sent text
PrintsOn old (Err e) new sent text = (sent ≡ Err e) × (new ≡ old)

-- a text of this kind was printed
pub record Says {E : Type 0} (Is : List ℕ → Type 0) (old : WriterState) (before : Result (Unit {0}) E) (new : WriterState)
    (after : Result (Unit {0}) E) : Type 0 where
  pub text : List ℕ
  pub is : Is text
  pub prints : PrintsOn old before new after text

-- an outcome of this kind came: its text was printed, and its changes were told
pub record Does {E : Type 0} (Is : Outcome → Type 0) (told_before told_after : Option (List ℕ)) (old : WriterState)
    (before : Result (Unit {0}) E) (new : WriterState) (after : Result (Unit {0}) E) : Type 0 where
  pub outcome : Outcome
  pub is : Is outcome
  pub told : Grows told_before told_after outcome.changed
  pub prints : PrintsOn old before new after outcome.text
