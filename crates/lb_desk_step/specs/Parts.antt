-- What a desk keeps. No public clause cites this module.
use Rattle.std.specs.Prelude.{◌≡◌, ℕ, ◌≤◌}
use Rattle.lb_desk_model.specs.declared.entry.Entry.{Entry}
use Rattle.lb_desk_model.specs.Worn.{open_connections}
use Rattle.lb_desk_core.specs.Core.{CoreView}
use Rattle.lb_desk_tail.specs.Tail.{TailView}
use Rattle.lb_desk_step.specs.Desk.{DeskView, IsDesk, taken}

-- what is seen of the parts
abbrev pub desk_of : CoreView → TailView Entry → DeskView
desk_of core journal = record { shown = core.shown; journal = journal }

-- the parts fit each other
pub record AgreeParts (core : CoreView) (journal : TailView Entry) (open_ones : ℕ) : Type 0 where
  pub desk : IsDesk (desk_of core journal)
  -- how many connections are open is counted
  pub counted : open_ones ≡ open_connections core.shown
  -- no event uses a pin twice
  pub uses : core.uses ≤ taken (desk_of core journal)
