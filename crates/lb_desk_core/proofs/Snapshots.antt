-- A table's counts make the sheet of what a core shows.
use Rattle.std.proofs.Common.{◌≡◌, ℕ, ◌<◌, ◌≤◌, Bool, true, cond, Option, Ordering, List, [], ◌∷◌, length, map, get_or, refl, sym, ap, ◌∙◌, subst, inl, inr, arith}
use Rattle.std.specs.Prelude.{All, IfOk, Result, Ok, Err}
use Rattle.std.specs.List.{sum_by, zip}
use Rattle.std.proofs.lemmas.List.{length-map, get_or-map}
use Rattle.std.proofs.lemmas.Option.{slice_get_cases}
use Rattle.std.proofs.lemmas.Slice.Zip.{length-zip, get_or-zip}
use Rattle.dual_cert_plan.specs.Sheets.{SheetParts, IsSheet}
use Rattle.pin_set.specs.declared.view.ViewServer.{ViewServer}
use Rattle.pin_set.specs.Views.{ViewParts, IsView}
use Rattle.cert_check_law.specs.Sheets.{StandsFor}
use Rattle.pin_set.specs.declared.pin_count.PinCount.{PinCount}
use Rattle.pin_groups.specs.Counts.{AreGroupsOfCounts, AreOfSomeView, HasCounts}
use Rattle.server_state.specs.Farm.{FarmView, capacity_of, usable}
use Rattle.lb_desk_model.specs.declared.event.Event.TheVariants.{Snapshot}
use Rattle.lb_desk_model.specs.declared.reply.Reply.TheVariants.{Sheet}
use Rattle.pin_set.specs.declared.table_pin.TablePin.{TablePin}
use Rattle.lb_desk_model.specs.Installs.{IsSheetAt}
use Rattle.lb_desk_model.specs.Seen.{Seen, Steps, named_server, seen, view_seen}
use Rattle.lb_desk_model.specs.States.{ServerState, State, seen_server, view_of}
use Rattle.lb_desk_law.proofs.SameViews.{same_view-refl}
use Rattle.lb_desk_seen.proofs.Changed.{views_are_seen}
use Rattle.lb_desk_seen.proofs.Reaching.{shown_views_are_lawful}
use Rattle.pin_table.specs.Kinds.{ArePinCounts}
use Rattle.lb_desk_core.specs.Core.{IsReached}

-- ---- the sheet

-- a sheet of what is shown is the reply to a planner
pub sheet_steps : (shown : Seen) (sheet : SheetParts) → IsSheetAt (view_seen shown) shown.version sheet → Steps shown Snapshot (Sheet sheet) shown
sheet_steps shown sheet of state is =
    let view : view_seen shown ≡ view_of state = ap view_seen (sym is) ∙ sym (views_are_seen state) in
    let version : shown.version ≡ state.version = ap (λ (s : Seen). s.version) (sym is) in
    record {
      next = state;
      step = record {
        acted = state;
        does = (rw (← view, ← version) of, refl);
        counts = inl (same_view-refl (view_of state), refl);
      };
      shown = is;
    }

-- ---- what is shown

-- it has a lawful view
pub reached_view : (shown : Seen) → IsReached shown → IsView (view_seen shown)
reached_view shown r = shown_views_are_lawful r.backend r.log shown r.lawful r.reaches

-- each server has a name
pub reached_names : (shown : Seen) → IsReached shown → length shown.names ≡ length shown.farm.servers
reached_names shown r =
    let servers = r.reaches.state.servers in
    subst (λ (s : Seen). length s.names ≡ length s.farm.servers) r.reaches.is
    (length-map servers (λ (s : ServerState). s.name) ∙ sym (length-map servers seen_server))

-- there are few servers
pub reached_few : (shown : Seen) → IsReached shown → length shown.names ≤ 128
reached_few shown r =
    let view = reached_view shown r in
    let named = length-map (zip shown.names shown.farm.servers) named_server in
    omega (arith, view.few_servers, reached_names shown r, length-zip shown.names shown.farm.servers)

-- counts of the pins are counts of the view
pub has_counts : (shown : Seen) (set : ℕ) (servers : List ViewServer) (counts : List PinCount) → set ≡ usable shown.farm
    → servers ≡ map named_server (zip shown.names shown.farm.servers) → ArePinCounts shown.pins counts
    → HasCounts set servers counts (view_seen shown)
has_counts shown set servers counts usable_is servers_are counted = record {
  same_usable = sym usable_is;
  same_servers = sym servers_are;
  same_counts = λ place want cost. sym (counted place want cost);
}

-- so a sheet may be made of them
pub of_some_view : (shown : Seen) (set : ℕ) (servers : List ViewServer) (counts : List PinCount) → IsReached shown
    → HasCounts set servers counts (view_seen shown) → AreOfSomeView set servers counts
of_some_view shown set servers counts r has = record {
  view = view_seen shown;
  lawful = reached_view shown r;
  counted = has;
}

-- and such a sheet is the view's
pub sheet_at : {E : Type 0} (shown : Seen) (set : ℕ) (servers : List ViewServer) (counts : List PinCount) (version : ℕ) (made : Result SheetParts E)
    → HasCounts set servers counts (view_seen shown) → version ≡ shown.version → IfOk made (λ sheet. sheet.version ≡ version)
    → IfOk made (λ sheet. IsSheet sheet)
    → IfOk made (λ sheet. (view : ViewParts) → HasCounts set servers counts view → StandsFor sheet view)
    → IfOk made (λ sheet. IsSheetAt (view_seen shown) shown.version sheet)
sheet_at shown set servers counts version (Ok sheet) has version_is versions lawful exact = record {
  lawful = lawful;
  version = versions ∙ version_is;
  stands = exact (view_seen shown) has;
}
sheet_at shown set servers counts version (Err error) has version_is versions lawful exact = tt

pub groups_at : {E : Type 0} (shown : Seen) (set : ℕ) (counts : List PinCount) (made : Result SheetParts E) → set ≡ usable shown.farm
    → IfOk made (λ sheet. AreGroupsOfCounts set sheet.groups counts) → IfOk made (λ sheet. AreGroupsOfCounts (usable shown.farm) sheet.groups counts)
groups_at shown set counts made usable_is groups = rw (← usable_is) groups

-- ---- the servers

abbrev pub view_server_of : List ℕ → ℕ → ViewServer
view_server_of name capacity = record { name = name; capacity = capacity }

-- the server at a place, as planners see it
pub named_at : (names : List (List ℕ)) (farm : FarmView) (i : ℕ) (d : ViewServer) → i < length names → length names ≡ length farm.servers
    → get_or (map named_server (zip names farm.servers)) i d ≡ view_server_of (get_or names i d.name) (capacity_of farm i)
named_at names farm i d within whole =
    elim (slice_get_cases farm.servers i).1 [
      | inl found ↦
          let long = length-zip names farm.servers in
          let inside : i < length (zip names farm.servers) = omega arith in
          get_or-map named_server (zip names farm.servers) i (d.name, found.0) d inside
          ∙ (ap named_server (get_or-zip names farm.servers i (d.name, found.0) within found.1) ∙ rw (found.3, found.2) refl)
      | inr past ↦ absurd (omega (arith, past.0))
    ]
