use Rattle.std.proofs.Common.{◌≡◌, ℕ, ◌≤◌, ◌<◌, true, ◌∙◌, List, sym, ap, map, length, take, slice_index, arith}
use Rattle.std.specs.Prelude.{is_ok}
use Rattle.std.specs.List.{zip}
use Rattle.std.proofs.lemmas.List.{length-take-le}
use Rattle.lb_types_pins.specs.declared.kind.Row.{Row}
use Rattle.dual_cert_plan.specs.Plans.{PlanParts}
use Rattle.pin_set.specs.Rows.{rows_load}
use Rattle.lb_desk_model.specs.Seen.{Seen, named_server}
use Rattle.lb_desk_core.specs.Core.{IsReached}
use Rattle.lb_desk_core.specs.Parts.{shown_of}
use Rattle.lb_desk_core.proofs.InstallSteps.{agree_installed}
use Rattle.lb_desk_core.proofs.Snapshots.{reached_few, reached_view}
use Rattle.lb_desk_core.proofs.parts.Parts.install.Goals as goal

pub install-requires-clause-lawful : goal.install-requires-clause-lawful
install-requires-clause-lawful g c =
    let p = c.self.inside in
    let shown : Seen = shown_of p.balance p.settings p.names.items p.farm p.book p.table p.cursor p.latest in
    let reached : IsReached shown = rw (← c.self.view_is) at c.requires.reached in
    let servers : c.args.servers.now ≡ map named_server (zip shown.names shown.farm.servers) = rw (← c.self.view_is) at c.requires.servers in
    rw (c.usable.ensures.exact, servers) (reached_view shown reached)

pub slice_bounds-loads-end : goal.slice_bounds-loads-end
slice_bounds-loads-end g c =
    let p = c.self.inside in
    let shown : Seen = shown_of p.balance p.settings p.names.items p.farm p.book p.table p.cursor p.latest in
    let reached : IsReached shown = rw (← c.self.view_is) at c.requires.reached in
    omega (arith, reached_few shown reached, c.len.ensures, c.loads-loads.type_inv)

pub slice_bounds-reload-end : goal.slice_bounds-reload-end
slice_bounds-reload-end g c =
    let p = c.self.inside in
    let shown : Seen = shown_of p.balance p.settings p.names.items p.farm p.book p.table p.cursor p.latest in
    let reached : IsReached shown = rw (← c.self.view_is) at c.requires.reached in
    let within : c.len.result ≤ length c.loads-loads.result = omega (arith, reached_few shown reached, c.len.ensures, c.loads-loads.type_inv) in
    sym (length-take-le c.len.result c.loads-loads.result within)

pub reload-requires : goal.reload-requires
reload-requires g c = omega (arith, slice_bounds-reload-end g c, c.len.ensures, c.self.invariant.many)

pub invariant_of-self-then-is_ok : goal.invariant_of-self-then-is_ok
invariant_of-self-then-is_ok g c =
    let p = c.self.inside in
    let shown : Seen = shown_of p.balance p.settings p.names.items p.farm p.book p.table p.cursor p.latest in
    let reached : IsReached shown = rw (← c.self.view_is) at c.requires.reached in
    let plan : PlanParts = c.args.plan.now in
    let all = c.loads-loads.result in
    let ok : is_ok c.in_ok-verdict.verdict ≡ true = sym c.is_ok.ensures.value ∙ c.if-is_ok.true in
    let long : length all ≡ 128 = omega (arith, c.loads-loads.type_inv) in
    let each : (s : ℕ) → s < 128 → slice_index all s ≡ rows_load plan.rows s =
    λ s below. c.loads-loads.ensures s below ∙ ap (λ (rows : List Row). rows_load rows s) c.rows.ensures.exact in
    let many : c.len.result ≡ length p.names.items = omega (arith, c.len.ensures) in
    let held : take c.len.result all ≡ take (length p.names.items) all = ap (λ (k : ℕ). take k all) many in
    rw c.reload.ensures
    (agree_installed p.settings p.names.items p.book c.usable.result c.args.servers.now plan c.in_ok-verdict.verdict p.table c.install.new.table
    all (take c.len.result all) c.self.invariant (reached_few shown reached) ok c.in_ok-verdict.ensures.installed c.in_ok-verdict.ensures.loads
    long each held)
