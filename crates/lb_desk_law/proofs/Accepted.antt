-- What the check's verdict on a plan for a sheet is worth, whatever the plan: an accepted plan is best for the sheet's views.
use Rattle.std.proofs.Common.{◌≡◌, ℕ, ◌<◌, Bool, true, false, cond, List, [], ◌∷◌, length, refl, sym, ◌∙◌, inl, inr, arith}
use Rattle.std.specs.Prelude.{All, Ok}
use Rattle.std.proofs.lemmas.Bool.{cases_lt, false≢true}
use Rattle.std.proofs.lemmas.List.{length-map}
use Rattle.std.proofs.lemmas.List.Elements.{All-head, All-tail, All-cons, All-nil, All-weaker}
use Rattle.std.proofs.lemmas.Option.{slice_get_past}
use Rattle.lb_types.specs.Servers.{has}
use Rattle.lb_types_pins.specs.declared.kind.Group.{Group}
use Rattle.lb_types_pins.specs.declared.kind.Row.{Row}
use Rattle.lb_types_pins.specs.Kinds.{same_kind}
use Rattle.pin_set.specs.declared.totals.Score.{Score}
use Rattle.pin_set.specs.Rows.{RowMayGo, RowPermitsBelow}
use Rattle.dual_cert_plan.specs.declared.server.Server.{Server}
use Rattle.dual_cert_plan.specs.declared.server.PricedServer.{PricedServer}
use Rattle.dual_cert_plan.specs.Sheets.{SheetParts, IsSheet, IsKind, IsListed, is_usable}
use Rattle.dual_cert_plan.specs.Plans.{PlanParts, servers_of, group_of, groups_of, with_group, grown}
use Rattle.cert_check_law.proofs.Agreeing.{same_kind_is, agreeing_are_best}
use Rattle.cert_check_law.specs.Sheets.{AreBestForViews}
use Rattle.cert_check_law.proofs.Room.{best_for_views}
use Rattle.cert_check.specs.Verdict.{room, price_at, verdict, IsMadeFor, IsPermitted, is_made_for, is_permitted}
use Rattle.cert_check.proofs.Decided.{Decides-is_made_for, Decides-is_permitted}
use Rattle.cert_check.proofs.Means.{rows_differ-means, not_permitted-means, ok-means}

abbrev KindIn : List Server → Group → Type 0
KindIn servers g = IsKind servers g.kind

abbrev RowIn : List Server → Row → Type 0
RowIn servers r = IsKind servers r.kind

-- what holds of the kinds of a plan's groups holds of its rows' kinds
first_kind : (servers : List Server) (g : Group) (groups : List Group) → All (KindIn servers) (with_group g groups)
    → IsKind servers g.kind × All (KindIn servers) groups
first_kind servers g [] kinds = (All-head (KindIn servers) g [] kinds, All-nil (KindIn servers))
first_kind servers g (next ∷ groups) kinds = go (same_kind g.kind next.kind) refl kinds
  where
    go : (b : Bool) → same_kind g.kind next.kind ≡ b
        → All (KindIn servers) (cond b (grown g next.count ∷ groups) (g ∷ (next ∷ groups)))
        → IsKind servers g.kind × All (KindIn servers) (next ∷ groups)
    go true e kinds =
        let here : IsKind servers g.kind = All-head (KindIn servers) (grown g next.count) groups kinds in
        let same : g.kind ≡ next.kind = same_kind_is.truth g.kind next.kind e in
        (here, All-cons (KindIn servers) next groups (rw same at here) (All-tail (KindIn servers) (grown g next.count) groups kinds))
    go false e kinds = (All-head (KindIn servers) g (next ∷ groups) kinds, All-tail (KindIn servers) g (next ∷ groups) kinds)

rows_kinds : (servers : List Server) (rows : List Row) → All (KindIn servers) (groups_of rows) → All (RowIn servers) rows
unfolding groups_of
rows_kinds servers [] kinds = All-nil (RowIn servers)
rows_kinds servers (row ∷ rows) kinds =
    let parts = first_kind servers (group_of row) (groups_of rows) kinds in
    All-cons (RowIn servers) row rows parts.0 (rows_kinds servers rows parts.1)

usable_below : (servers : List Server) (s : ℕ) → is_usable servers s ≡ true → s < length servers
usable_below servers s usable =
    elim (cases_lt s (length servers)) [
      | inl below ↦ below
      | inr past ↦
          let off : is_usable servers s ≡ false = rw (slice_get_past servers s past) refl in
          absurd (false≢true (sym off ∙ usable))
    ]

listed_place : (servers : List Server) (r : Row) → IsKind servers r.kind → RowMayGo r → IsListed servers r.new_place
listed_place servers r kind may = λ s at.
    let permitted : has r.kind.permitted s ≡ true = rw at at may in
    usable_below servers s (kind.permitted s permitted)

rows_listed : (servers : List Server) (rows : List Row) → All (RowIn servers) rows → All RowMayGo rows → All (λ r. IsListed servers r.new_place) rows
rows_listed servers [] kinds may = All-nil (λ (r : Row). IsListed servers r.new_place)
rows_listed servers (row ∷ rows) kinds may =
    All-cons (λ (r : Row). IsListed servers r.new_place) row rows
    (listed_place servers row (All-head (RowIn servers) row rows kinds) (All-head RowMayGo row rows may))
    (rows_listed servers rows (All-tail (RowIn servers) row rows kinds) (All-tail RowMayGo row rows may))

pub row_below : (servers : List PricedServer) (r : Row) → IsKind (servers_of servers) r.kind → RowPermitsBelow (length servers) r
row_below servers r kind s permitted =
    let below = usable_below (servers_of servers) s (kind.permitted s permitted) in
    let as_many : length (servers_of servers) ≡ length servers = length-map servers (λ (p : PricedServer). p.server) in
    omega arith

-- the verdict says of an accepted plan what the check promises of it
pub best_of_accepted : (sheet : SheetParts) (plan : PlanParts) (score : Score) → IsSheet sheet → verdict sheet plan ≡ Ok score → AreBestForViews sheet plan.rows
best_of_accepted sheet plan score lawful accepted =
    let made = made_for (is_made_for sheet plan) refl in
    let permitted : IsPermitted plan = permitted_then (is_permitted plan) refl in
    let own_kinds : All (KindIn (servers_of plan.servers)) (groups_of plan.rows) = rw (made.groups, made.servers) lawful.kinds in
    let kinds : All (RowIn (servers_of plan.servers)) plan.rows = rows_kinds (servers_of plan.servers) plan.rows own_kinds in
    let listed = rows_listed (servers_of plan.servers) plan.rows kinds permitted in
    let facts = (ok-means sheet plan listed).0 (rw accepted refl) in
    best_for_views sheet plan.rows (
    agreeing_are_best (room sheet.servers) (price_at plan.servers) (length plan.servers) plan.rows
    (All-weaker (RowIn (servers_of plan.servers)) (RowPermitsBelow (length plan.servers)) (row_below plan.servers) plan.rows kinds)
    (record { permitted = permitted; within = facts.2; shown = facts.3 }))
  where
    made_for : (b : Bool) → is_made_for sheet plan ≡ b → IsMadeFor sheet plan
    made_for true e = (Decides-is_made_for sheet plan).0 e
    made_for false e =
        let refused = (rows_differ-means sheet plan).1 (λ made. false≢true (sym e ∙ (Decides-is_made_for sheet plan).1 made)) in
        absurd cc

    permitted_then : (b : Bool) → is_permitted plan ≡ b → IsPermitted plan
    permitted_then true e = (Decides-is_permitted plan).0 e
    permitted_then false e =
        let refused = (not_permitted-means sheet plan).1 (made_for (is_made_for sheet plan) refl, λ may. false≢true (sym e ∙ (Decides-is_permitted plan).1 may)) in
        absurd cc
