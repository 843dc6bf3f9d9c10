use Rattle.lb_desk_core.proofs.Snapshots.{sheet_steps}
use Rattle.lb_desk_core.proofs.backend_core.Core.snapshot.Goals as goal

pub sheet_from-requires : goal.sheet_from-requires
sheet_from-requires g c = record {
  version = c.requires;
  counted = rw (← c.self.view_is, ← c.self-inside.view_is, c.deref.ensures.value) c.in_ok-counts.ensures.exact;
}

pub returns : goal.returns
returns g c = record { steps = sheet_steps c.args.self.now.shown c.in_ok-new.field-0 (rw c.in_ok-new.ensures c.in_ok-sheet.ensures.exact) }
