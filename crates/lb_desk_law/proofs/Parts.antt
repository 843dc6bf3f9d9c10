-- Histories that are cut.
use Rattle.std.proofs.Common.{List, [], ◌∷◌, ◌++◌, refl, sym}
use Rattle.lb_desk_model.specs.declared.entry.Entry.{Entry}
use Rattle.lb_desk_model.specs.Histories.{History}
use Rattle.lb_desk_model.specs.States.{State}
use Rattle.lb_desk_law.specs.Parts.{PartsAreHistories}

pub cut : (early late : List Entry) (old new : State) → History old (early ++ late) new → (mid : State) × History old early mid × History mid late new
cut [] late old new history = (old, refl, history)
cut (entry ∷ early) late old new history =
    let rest = cut early late history.0 new history.2 in
    (rest.0, (history.0, history.1, rest.1), rest.2)

pub joined : (early late : List Entry) (old mid new : State) → History old early mid → History mid late new → History old (early ++ late) new
joined [] late old mid new first second = rw (sym first) second
joined (entry ∷ early) late old mid new first second = (first.0, first.1, joined early late first.0 mid new first.2 second)

pub parts_are_histories : PartsAreHistories
parts_are_histories early late old new = (cut early late old new, λ parts. joined early late old parts.0 new parts.1 parts.2)
