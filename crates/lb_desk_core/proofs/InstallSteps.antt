-- The install of a plan as a step of each state that is shown.
use Rattle.std.proofs.Common.{◌≡◌, ℕ, ◌+◌, ◌≤◌, ◌<◌, Bool, true, false, Option, List, length, map, take, slice_index, refl, sym, ap, subst, ◌∙◌, inl, arith}
use Rattle.std.specs.Prelude.{nat_lt, Result, Ok, Err, IfOk, is_ok}
use Rattle.std.specs.List.{zip}
use Rattle.std.proofs.lemmas.Bool.{leb-true, leb-false}
use Rattle.std.proofs.lemmas.List.{get_or-take, length-take-le}
use Rattle.dual_cert_plan.specs.Plans.{PlanParts}
use Rattle.pin_set.specs.declared.totals.Score.{Score}
use Rattle.pin_set.specs.declared.view.ViewServer.{ViewServer}
use Rattle.pin_set.specs.Rows.{rows_load}
use Rattle.capacity_book.specs.Book.{BookView, with_all_pins}
use Rattle.cert_check.specs.declared.fault.CheckFault.{CheckFault}
use Rattle.lb_desk_model.specs.declared.event.Event.TheVariants.{Install}
use Rattle.lb_desk_model.specs.declared.reply.Refusal.TheVariants.{Stale, Bad}
use Rattle.lb_desk_model.specs.declared.reply.Reply.TheVariants.{Installed, Refused}
use Rattle.lb_types.specs.declared.table_settings.TableSettings.{TableSettings}
use Rattle.lb_desk_model.specs.Installs.{InstallsAt, JudgesAt, moved_to, with_places}
use Rattle.lb_desk_model.specs.Seen.{Acts, Seen, Steps, seen, view_seen}
use Rattle.lb_desk_model.specs.Serves.{load}
use Rattle.lb_desk_model.specs.States.{State, view_of}
use Rattle.lb_desk_law.proofs.SameViews.{same_view-refl}
use Rattle.lb_desk_seen.proofs.Changed.{views_are_seen}
use Rattle.lb_desk_servers.specs.Shown.{counted}
use Rattle.pin_install.specs.Installed.{InstallsIn}
use Rattle.pin_table.specs.Tables.{TableParts}
use Rattle.lb_desk_core.specs.Acting.{ActsOn}
use Rattle.lb_desk_core.specs.Core.{IsReached}
use Rattle.lb_desk_core.specs.Parts.{AgreeParts}
use Rattle.lb_desk_core.specs.PlacesPins.{PlacesPins}
use Rattle.lb_desk_core.proofs.Stepped.{steps_same, steps_more}

-- ---- the parts

-- they still fit each other where each server holds as many pins as the book says now
pub agree_installed : (settings : Option TableSettings) (names : List (List ℕ)) (book : BookView) (set : ℕ) (servers : List ViewServer)
    (plan : PlanParts) (verdict : Result Score CheckFault) (table new : TableParts) (all held : List ℕ)
    → AgreeParts settings names book table → length names ≤ 128 → is_ok verdict ≡ true
    → IfOk verdict (λ score. InstallsIn set servers plan score table new)
    → IfOk verdict (λ score. (server : ℕ) → load new.pins server ≡ rows_load plan.rows server)
    → length all ≡ 128 → ((server : ℕ) → server < 128 → slice_index all server ≡ rows_load plan.rows server)
    → held ≡ take (length names) all → AgreeParts settings names (with_all_pins book held) new
agree_installed settings names book set servers plan (Err fault) table new all held agree few ok installs loads long each is = absurd (cc ok)
agree_installed settings names book set servers plan (Ok score) table new all held agree few ok installs loads long each is =
    let n = length names in
    let many : length held ≡ n = ap length is ∙ length-take-le n all (omega (arith, few, long)) in
    record {
      many = many;
      loads = λ server below.
          ap (λ (h : List ℕ). slice_index h server) is
          ∙ (get_or-take n all server 0 below ∙ (each server (omega (arith, below, few)) ∙ sym (loads server)));
      as_set = rw installs.new_is agree.as_set;
    }

-- ---- a plan that is accepted

-- of a state, and of all that is shown of it
InstallsSeen : State → PlanParts → Score → List (Option ℕ) → Seen → Type 0
InstallsSeen state plan score places shown = plan.version ≡ shown.version → InstallsAt (view_seen shown) shown.version plan score places
    → Acts state (Install plan) (Installed score) (record shown { pins = map (λ m. moved_to m.0 m.1) (zip shown.pins places) })

installs_seen : (state : State) (plan : PlanParts) (score : Score) (places : List (Option ℕ)) → InstallsSeen state plan score places (seen state)
unfolding InstallsSeen
installs_seen state plan score places version installs = record {
  acted = with_places state places;
  does = (version, record { places = places; moves = rw (views_are_seen state) installs; new_is = refl });
  shown = refl;
}

pub install_acts : (old new : Seen) (plan : PlanParts) (score : Score) → plan.version ≡ old.version → PlacesPins plan score old new
    → ActsOn old (Install plan) (Installed score) new
unfolding InstallsSeen
install_acts old new plan score version placed state is =
    rw placed.new_is
    (subst (InstallsSeen state plan score placed.places) is (installs_seen state plan score placed.places) version placed.installs)

-- the version is counted exactly where pins were moved
pub install_steps : (old new : Seen) (plan : PlanParts) (score : Score) (changes : Bool) → IsReached old → plan.version ≡ old.version
    → PlacesPins plan score old new → nat_lt 0 score.moved ≡ changes
    → Steps old (Install plan) (Installed score) (record new { version = counted new.version changes })
install_steps old new plan score true r version placed some =
    let any : 1 ≤ score.moved = leb-true 1 score.moved some in
    steps_more old new (Install plan) (Installed score) r (install_acts old new plan score version placed) (λ none. omega (arith, any, none))
install_steps old new plan score false r version placed none =
    let few : score.moved < 1 = leb-false 1 score.moved none in
    steps_same old new (Install plan) (Installed score) r (install_acts old new plan score version placed) (omega (arith, few))

-- ---- a plan that is refused

-- it has another version than what is shown
pub stale_steps : (shown : Seen) (plan : PlanParts) → (plan.version ≡ shown.version → ⊥) → Steps shown (Install plan) (Refused Stale) shown
stale_steps shown plan differ state is =
    let version : state.version ≡ shown.version = ap (λ (s : Seen). s.version) is in
    record {
      next = state;
      step = record {
        acted = state;
        does = ((λ same. differ (same ∙ version)), refl);
        counts = inl (same_view-refl (view_of state), refl);
      };
      shown = is;
    }

-- the check of the plan against the sheet fails
pub bad_steps : (shown : Seen) (plan : PlanParts) (fault : CheckFault) → plan.version ≡ shown.version
    → JudgesAt (view_seen shown) shown.version plan (Err fault) → Steps shown (Install plan) (Refused (Bad fault)) shown
bad_steps shown plan fault same judges state is =
    let view : view_seen shown ≡ view_of state = ap view_seen (sym is) ∙ sym (views_are_seen state) in
    let version : shown.version ≡ state.version = ap (λ (s : Seen). s.version) (sym is) in
    record {
      next = state;
      step = record {
        acted = state;
        does = (same ∙ version, rw (← view, ← version) judges, refl);
        counts = inl (same_view-refl (view_of state), refl);
      };
      shown = is;
    }
