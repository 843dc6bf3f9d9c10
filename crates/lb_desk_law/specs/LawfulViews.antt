-- In every history of a backend, the view is one that a planner may be asked about.
use Rattle.std.specs.Prelude.{List}
use Rattle.pin_set.specs.Views.{IsView}
use Rattle.lb_desk_model.specs.declared.entry.Entry.{Entry}
use Rattle.lb_desk_model.specs.Backends.{BackendParts, IsBackend}
use Rattle.lb_desk_model.specs.Histories.{History}
use Rattle.lb_desk_model.specs.States.{State, opening, view_of}

-- few servers with distinct names, few pins with distinct names, each at a server of the backend or at none, at a lawful cost
abbrev pub ViewsAreLawful : Type 0
ViewsAreLawful = (backend : BackendParts) (entries : List Entry) (state : State) → IsBackend backend
    → History (opening backend) entries state → IsView (view_of state)
