-- What is written of a repaired state is a plan, and a checker accepts it.
use Rattle.std.proofs.Common.{◌≡◌, ℕ, zero, suc, ◌+◌, ◌*◌, ◌^◌, ◌<◌, ◌≤◌, true, List, length, sym, ap, subst, ◌∙◌, inl, inr, arith}
use Rattle.std.specs.List.{sum_by, All}
use Rattle.std.proofs.lemmas.Bool.{cases_lt}
use Rattle.std.proofs.lemmas.List.Elements.{All-get_or}
use Rattle.lb_types_pins.specs.declared.kind.Group.{Group}
use Rattle.lb_types_pins.specs.declared.kind.Row.{Row}
use Rattle.pin_set.specs.Costs.{held}
use Rattle.pin_set.specs.Assignments.{may_go}
use Rattle.pin_set.specs.Rows.{rows_load, rows_unplaced_cost, rows_cost, rows_least, RowMayGo}
use Rattle.dual_cert_plan.specs.Sheets.{SheetParts, IsSheet, IsKind, IsListed, AreServers}
use Rattle.dual_cert_plan.specs.Plans.{PlanParts, IsPlan}
use Rattle.cert_check.specs.Verdict.{room, price_at, IsMadeFor, IsPermitted, IsWithinCapacity, IsShown}
use Rattle.cert_check.proofs.Means.{verdict-accepts}
use Rattle.cert_check_law.proofs.Sums.{sum_to-same}
use Rattle.flow_planner_net.specs.Networks.{options, size, no_group, place_of, group_at, may, capacity, limit}
use Rattle.flow_planner_net.specs.States.{AllPlaced}
use Rattle.flow_planner_net.specs.RowLists.{rows_of}
use Rattle.flow_planner_net.proofs.RowSums.{All-rows_to}
use Rattle.flow_planner_net.specs.Slackness.{cost_of, least_of}
use Rattle.flow_planner_net.proofs.Slackness.{states_are_shown}
use Rattle.flow_planner_law.specs.Accepted.{network_of, IsWritten, IsRepaired, IsAccepted, PlansAreAccepted}
use Rattle.flow_planner_law.proofs.Lawful.{options-of, capacity-room, network-lawful}
use Rattle.flow_planner_law.proofs.Grouped.{grouped}
use Rattle.flow_planner_law.proofs.RowCosts.{load-there, load-past, rows_cost-is, rows_least-is, rows_moves-is, rows_pins-is}
use Rattle.flow_planner_law.proofs.Ordered.{rows-rising}
use Rattle.flow_planner_law.proofs.Prices.{prices_of, written-state, many, prices-low, off-free}

module _ (sheet : SheetParts) (used : ℕ → ℕ → ℕ) (price load : ℕ → ℕ) (plan : PlanParts) (lawful : IsSheet sheet)
    (repaired : IsRepaired (network_of sheet) used price load) (written : IsWritten sheet used price plan) where
  placed : AllPlaced (network_of sheet) used
  placed = repaired.state.placed

  -- ---- the plan is lawful

  kinds : All (λ r. IsKind sheet.servers r.kind) (rows_of (network_of sheet) used)
  kinds =
      All-rows_to (network_of sheet) used (λ r. IsKind sheet.servers r.kind) (size (network_of sheet))
      (λ g o group option some. All-get_or (λ (h : Group). IsKind sheet.servers h.kind) sheet.groups g no_group group lawful.kinds)

  listed : (o : ℕ) → o < options (network_of sheet) → IsListed sheet.servers (place_of o)
  listed zero within server is = absurd cc
  listed (suc s) within server is =
      let same : s ≡ server = cc in
      omega (arith, options-of sheet)

  new_places : All (λ r. IsListed sheet.servers r.new_place) (rows_of (network_of sheet) used)
  new_places = All-rows_to (network_of sheet) used (λ r. IsListed sheet.servers r.new_place) (size (network_of sheet)) (λ g o group option some. listed o option)

  counted : All (λ r. 1 ≤ r.count) (rows_of (network_of sheet) used)
  counted = All-rows_to (network_of sheet) used (λ r. 1 ≤ r.count) (size (network_of sheet)) (λ g o group option some. omega arith)

  plan-lawful : IsPlan plan
  plan-lawful =
      let total : sum_by (λ (r : Row). r.count) (rows_of (network_of sheet) used) ≤ 16777216 = omega (arith, rows_pins-is (network_of sheet) used placed, lawful.total) in
      let rising = rows-rising (network_of sheet) used lawful.rising (size (network_of sheet)) (omega arith) in
      let low = (network-lawful sheet lawful).low in
      let small : limit (network_of sheet) < 2 ^ 40 = omega (arith, low) in
      record {
        version = omega (arith, written.version, lawful.version);
        servers = subst AreServers (sym written.servers) lawful.servers;
        prices = prices-low sheet used price plan lawful written load repaired.state small;
        off_has_no_price = off-free sheet used price plan lawful written;
        kinds = rw (written.servers, written.rows) kinds;
        new_places = rw (written.servers, written.rows) new_places;
        counted = rw written.rows counted;
        total = rw written.rows total;
        rising = rw written.rows rising;
      }

  -- ---- the plan is accepted

  made_for : IsMadeFor sheet plan
  made_for = record {
    servers = written.servers;
    groups = rw written.rows (grouped (network_of sheet) used placed lawful.counted lawful.rising);
  }

  goes : (g o : ℕ) → may (network_of sheet) g o ≡ true → may_go (group_at (network_of sheet) g).kind (place_of o) ≡ true
  unfolding may
  goes g o allowed = allowed

  permitted : IsPermitted plan
  permitted =
      rw written.rows
      (All-rows_to (network_of sheet) used RowMayGo (size (network_of sheet)) (λ g o group option some. goes g o (repaired.state.cheapest.allowed o g option group some)))

  within : IsWithinCapacity sheet plan
  within s =
      let sent : rows_load plan.rows s ≡ rows_load (rows_of (network_of sheet) used) s = ap (λ (rows : List Row). rows_load rows s) written.rows in
      elim (cases_lt (suc s) (options (network_of sheet))) [
        | inl inside ↦
            omega (arith, sent, load-there (network_of sheet) used load repaired.state.loads s inside, repaired.within (suc s) inside, capacity-room sheet s)
        | inr past ↦ omega (arith, sent, load-past (network_of sheet) used s past)
      ]

  unplaced_cost-is : rows_unplaced_cost (rows_of (network_of sheet) used) ≡ (network_of sheet).unplaced_cost
  unplaced_cost-is = ap (λ moves. 1 + moves) (rows_moves-is (network_of sheet) used placed)

  shown : IsShown sheet plan
  shown =
      let network = network_of sheet in
      let rows = rows_of network used in
      let n = length sheet.servers in
      let paid = price_at plan.servers in
      let u = network.unplaced_cost in
      let state = written-state sheet used price plan lawful written load repaired.state in
      let law : cost_of network used + held n (λ s. capacity network (suc s)) paid ≡ least_of network paid n =
      states_are_shown network n used (prices_of plan price) load (network-lawful sheet lawful) (options-of sheet) state repaired.within in
      let worth : held n (λ s. capacity network (suc s)) paid ≡ held n (room sheet.servers) paid =
      sum_to-same n (λ s. capacity network (suc s) * paid s) (λ s. room sheet.servers s * paid s) (λ s below. ap (λ k. k * paid s) (capacity-room sheet s)) in
      let whole : rows_cost u rows + held n (room sheet.servers) paid ≡ rows_least u paid n rows =
      ap (λ k. k + held n (room sheet.servers) paid) (rows_cost-is network used)
      ∙ (ap (λ k. cost_of network used + k) (sym worth) ∙ (law ∙ sym (rows_least-is network used placed paid n))) in
      let servers : n ≡ length plan.servers = sym (many sheet used price plan lawful written) in
      let listed = subst (λ m. rows_cost u rows + held m (room sheet.servers) paid ≡ rows_least u paid m rows) servers whole in
      let unplaced = subst (λ v. rows_cost v rows + held (length plan.servers) (room sheet.servers) paid ≡ rows_least v paid (length plan.servers) rows) (sym unplaced_cost-is) listed in
      subst (λ (rs : List Row). rows_cost (rows_unplaced_cost rs) rs + held (length plan.servers) (room sheet.servers) paid
      ≡ rows_least (rows_unplaced_cost rs) paid (length plan.servers) rs) (sym written.rows) unplaced

  pub accepted : IsAccepted sheet plan
  accepted = record {
    lawful = plan-lawful;
    accepted = verdict-accepts sheet plan made_for permitted within shown;
  }

pub plans_are_accepted : PlansAreAccepted
plans_are_accepted sheet used price load plan lawful repaired written = accepted sheet used price load plan lawful repaired written
