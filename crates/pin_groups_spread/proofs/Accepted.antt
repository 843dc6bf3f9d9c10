-- A plan that is accepted for one sheet of a view is accepted for each.
use Rattle.std.proofs.Common.{◌≡◌, ℕ, ◌^◌, ◌≤◌, true, false, Result, Ok, Err, refl, sym, subst}
use Rattle.std.specs.Prelude.{IsOk, is_err}
use Rattle.dual_cert_plan.specs.Sheets.{SheetParts, IsSheet, sheet_of_parts}
use Rattle.dual_cert_plan.specs.Plans.{PlanParts}
use Rattle.pin_set.specs.Views.{ViewParts}
use Rattle.pin_set.specs.declared.totals.Score.{Score}
use Rattle.cert_check.specs.declared.fault.CheckFault.{CheckFault}
use Rattle.cert_check.specs.Verdict.{verdict}
use Rattle.cert_check_law.specs.Sheets.{StandsFor}
use Rattle.pin_groups.proofs.Tally.{one_sheet}
use Rattle.pin_groups_spread.specs.Accepted.{IsAcceptedFor}

-- the sheet at another version
at_version : ℕ → SheetParts → SheetParts
at_version version sheet = sheet_of_parts version sheet.servers sheet.groups

lawful_at : (version : ℕ) (sheet : SheetParts) → version ≤ 2 ^ 63 → IsSheet sheet → IsSheet (at_version version sheet)
unfolding at_version
lawful_at version sheet small lawful =
    record {
      version = small;
      servers = lawful.servers;
      kinds = lawful.kinds;
      counted = lawful.counted;
      total = lawful.total;
      rising = lawful.rising;
    }

-- the verdict doesn't read the version
verdict_at : (version : ℕ) (sheet : SheetParts) (plan : PlanParts) → verdict (at_version version sheet) plan ≡ verdict sheet plan
unfolding at_version verdict
verdict_at version sheet plan = refl

stands_at : (version : ℕ) (sheet : SheetParts) (view : ViewParts) → StandsFor sheet view → StandsFor (at_version version sheet) view
unfolding at_version
stands_at version sheet view stands = record { servers = stands.servers; counts = stands.counts }

version_at : (version : ℕ) (sheet : SheetParts) → (at_version version sheet).version ≡ version
unfolding at_version
version_at version sheet = refl

pub accepted_for_each : (view : ViewParts) (plan : PlanParts) (sheet : SheetParts) → IsSheet sheet → StandsFor sheet view → IsAcceptedFor view plan → IsOk (verdict sheet plan)
accepted_for_each view plan sheet lawful stands one =
    let other = at_version sheet.version one.sheet in
    let same : other ≡ sheet =
    one_sheet view other sheet (lawful_at sheet.version one.sheet lawful.version one.lawful) lawful (version_at sheet.version one.sheet)
    (stands_at sheet.version one.sheet view one.stands) stands in
    let Accepts : SheetParts → Type 0 = λ s. IsOk (verdict s plan) in
    subst Accepts same (rw (verdict_at sheet.version one.sheet plan) one.accepted)

-- a verdict that is a score refuses nothing
pub never_refused : (result said : Result Score CheckFault) → result ≡ said → IsOk said → is_err result ≡ true → false ≡ true
never_refused (Ok score) said same accepted failed = failed
never_refused (Err fault) said same accepted failed = subst IsOk (sym same) accepted
