-- Histories that are cut.
use Rattle.std.specs.Prelude.{◌↔◌, List, ◌++◌}
use Rattle.lb_desk_model.specs.declared.entry.Entry.{Entry}
use Rattle.lb_desk_model.specs.Histories.{History}
use Rattle.lb_desk_model.specs.States.{State}

-- the entries of two lists, one behind the other, are a history exactly where both are, with one state between them
abbrev pub PartsAreHistories : Type 0
PartsAreHistories = (early late : List Entry) (old new : State)
    → History old (early ++ late) new ↔ ((mid : State) × History old early mid × History mid late new)
