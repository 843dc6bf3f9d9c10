-- A desk that was closed at the end of a run, and the line that says so. Our own words.
use Rattle.std.specs.Prelude.{◌≡◌, ℕ, ◌+◌, ◌++◌, Bool, true, false, List, length, codes}
use Rattle.std.specs.Fmt.{decimal}
use Rattle.lb_desk_model.specs.declared.entry.Entry.{Entry}
use Rattle.lb_desk_model.specs.Backends.{BackendParts}
use Rattle.lb_desk_shared.specs.Closing.{Closes}
use Rattle.lb_desk_shared.specs.declared.closing.Closing.{Closing}
use Rattle.lb_desk_tie.specs.Receipts.{PassView, AreOf}

-- passes of the desk of this number share out the history that it stands at the end of, and of that its journal has as many of the newest
-- entries as this size allows
abbrev pub IsClosed : BackendParts → ℕ → ℕ → Closing → Type 0
IsClosed backend number size closing =
    (passes : List (PassView Entry)) × AreOf number passes × Closes backend passes closing × (closing.journal.capacity ≡ size)

abbrev pub yes_or_no : Bool → List ℕ
yes_or_no true = codes "yes"
yes_or_no false = codes "no"

-- `closed web events 15 rising yes`
abbrev pub closed_line : List ℕ → Closing → List ℕ
closed_line backend closing =
    codes "closed " ++ backend ++ codes " events " ++ decimal (closing.journal.first + length closing.journal.entries)
    ++ codes " rising " ++ yes_or_no closing.rising ++ codes "\n"
