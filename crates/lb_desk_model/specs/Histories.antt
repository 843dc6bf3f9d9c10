-- Whole histories of one backend. Callers interleave by whole events, since one event is one step: an interleaving is a
-- list of events.
use Rattle.std.specs.Prelude.{◌≡◌, ◌⊎◌, List, [], ◌∷◌}
use Rattle.lb_desk_model.specs.declared.entry.Entry.{Entry}
use Rattle.lb_desk_model.specs.States.{State, SameView, view_of}
use Rattle.lb_desk_model.specs.Steps.{Step}

-- the entries are the steps from the old state to the new one
abbrev pub History : State → List Entry → State → Type 0
History old [] new = new ≡ old
History old (entry ∷ entries) new = (mid : State) × Step old entry.event entry.reply mid × History mid entries new

-- some step of the history changed the view
abbrev pub Changed : (old : State) (entries : List Entry) (new : State) → History old entries new → Type 0
Changed old [] new history = ⊥
Changed old (entry ∷ entries) new history =
    (SameView (view_of old) (view_of history.0) → ⊥) ⊎ Changed history.0 entries new history.2
