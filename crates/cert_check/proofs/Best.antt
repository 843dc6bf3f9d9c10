-- A plan of which all four facts hold is best: every assignment that agrees with it is, at its sheet's capacities and for every
-- view of its sheet.
use Rattle.std.proofs.Common.{◌≡◌, ◌<◌, ℕ, true, false, List, length, refl, sym, ◌∙◌, inl, inr, arith}
use Rattle.std.proofs.lemmas.Bool.{cases_lt, false≢true}
use Rattle.std.proofs.lemmas.List.{length-map}
use Rattle.std.proofs.lemmas.List.Elements.{All-weaker}
use Rattle.std.proofs.lemmas.Option.{slice_get_past}
use Rattle.lb_types_pins.specs.declared.kind.Row.{Row}
use Rattle.pin_set.specs.Rows.{RowPermitsBelow, AgreeingAreBest}
use Rattle.cert_check_law.specs.Sheets.{sheet_room, AreBestForViews}
use Rattle.cert_check_law.proofs.Room.{best_for_views}
use Rattle.dual_cert_plan.specs.declared.server.Server.{Server}
use Rattle.dual_cert_plan.specs.declared.server.PricedServer.{PricedServer}
use Rattle.dual_cert_plan.specs.Sheets.{SheetParts, IsKind, is_usable}
use Rattle.dual_cert_plan.specs.Plans.{PlanParts, IsPlan, servers_of}
use Rattle.cert_check_law.proofs.Agreeing.{agreeing_are_best}
use Rattle.cert_check.specs.Verdict.{room, price_at, IsPermitted, IsWithinCapacity, IsShown}

usable_below : (servers : List Server) (s : ℕ) → is_usable servers s ≡ true → s < length servers
usable_below servers s usable =
    elim (cases_lt s (length servers)) [
      | inl below ↦ below
      | inr past ↦
          let off : is_usable servers s ≡ false = rw (slice_get_past servers s past) refl in
          absurd (false≢true (sym off ∙ usable))
    ]

-- a row's permitted servers are among the plan's
row_below : (servers : List PricedServer) (r : Row) → IsKind (servers_of servers) r.kind → RowPermitsBelow (length servers) r
row_below servers r kind s permitted =
    let below = usable_below (servers_of servers) s (kind.permitted s permitted) in
    let as_many : length (servers_of servers) ≡ length servers = length-map servers (λ (p : PricedServer). p.server) in
    omega arith

pub agreeing_from : (sheet : SheetParts) (plan : PlanParts) → IsPlan plan → IsPermitted plan → IsWithinCapacity sheet plan → IsShown sheet plan
    → AgreeingAreBest (sheet_room sheet) plan.rows
agreeing_from sheet plan lawful permitted within shown =
    agreeing_are_best (room sheet.servers) (price_at plan.servers) (length plan.servers) plan.rows
    (All-weaker (λ (r : Row). IsKind (servers_of plan.servers) r.kind) (RowPermitsBelow (length plan.servers)) (row_below plan.servers) plan.rows lawful.kinds)
    (record { permitted = permitted; within = within; shown = shown })

pub best_from : (sheet : SheetParts) (plan : PlanParts) → IsPlan plan → IsPermitted plan → IsWithinCapacity sheet plan → IsShown sheet plan
    → AreBestForViews sheet plan.rows
best_from sheet plan lawful permitted within shown = best_for_views sheet plan.rows (agreeing_from sheet plan lawful permitted within shown)
