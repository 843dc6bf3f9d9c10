use Rattle.std.proofs.Common.{refl}
use Rattle.dual_cert_plan.specs.Plans.{own_sheet}
use Rattle.dual_cert_plan.proofs.OwnSheet.{own_sheet-lawful, pins-groups_of}
use Rattle.dual_cert_plan.proofs.plan.Plan.sheet.Goals as goal

pub groups_of-requires : goal.groups_of-requires
groups_of-requires c = rw c.deref-2.ensures.value c.self.invariant.total

pub new-requires : goal.new-requires
unfolding own_sheet
new-requires c =
    rw (c.in_ok-servers.ensures, c.deref.ensures.value, c.in_ok-groups.ensures, c.deref-2.ensures.value) (own_sheet-lawful _ c.self.invariant)

pub returns-clause-exact : goal.returns-clause-exact
unfolding own_sheet
returns-clause-exact c =
    rw (c.new.ensures, c.in_ok-servers.ensures, c.deref.ensures.value, c.in_ok-groups.ensures, c.deref-2.ensures.value, ← c.self.view_is) refl

pub returns-clause-counts : goal.returns-clause-counts
returns-clause-counts c kind =
    rw (c.new.ensures, c.in_ok-groups.ensures, c.deref-2.ensures.value, ← c.self.view_is) (pins-groups_of kind c.self.inside.rows.items)
