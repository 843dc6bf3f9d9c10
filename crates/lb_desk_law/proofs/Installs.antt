-- What one install does, by its reply.
use Rattle.std.proofs.Common.{◌≡◌, ◌≢◌, ◌<◌, ◌≤◌, ℕ, ◌+◌, Option, List, [], ◌∷◌, length, map, refl, sym, ap, ◌∙◌, subst, inl, inr, arith}
use Rattle.std.specs.Prelude.{Result, Ok, Err}
use Rattle.std.proofs.lemmas.List.{length-map}
use Rattle.pin_set.specs.declared.pin.PinId.{PinId}
use Rattle.pin_set.specs.declared.totals.Score.{Score}
use Rattle.pin_set.specs.Assignments.{IsBest}
use Rattle.pin_set.specs.Rows.{Agrees, score_of}
use Rattle.pin_set.specs.Views.{kind_of, kinds_of, capacities}
use Rattle.dual_cert_plan.specs.Plans.{PlanParts}
use Rattle.dual_cert_plan.specs.Sheets.{SheetParts}
use Rattle.pin_groups.proofs.Tally.{one_sheet}
use Rattle.cert_check.specs.declared.fault.CheckFault.{CheckFault}
use Rattle.cert_check.specs.Verdict.{verdict}
use Rattle.lb_desk_model.specs.declared.entry.Entry.{Entry}
use Rattle.lb_desk_model.specs.declared.event.Event.TheVariants.{Install}
use Rattle.lb_desk_model.specs.declared.reply.Refusal.TheVariants.{Stale, Bad}
use Rattle.lb_desk_model.specs.declared.reply.Reply.{Reply}
use Rattle.lb_desk_model.specs.declared.reply.Reply.TheVariants.{Installed, Refused}
use Rattle.pin_set.specs.declared.table_pin.TablePin.{TablePin}
use Rattle.lb_desk_model.specs.Histories.{History}
use Rattle.lb_desk_model.specs.Installs.{Judges, Installs, moved_to}
use Rattle.lb_desk_model.specs.States.{State, view_of}
use Rattle.lb_desk_model.specs.Steps.{Does, Counts, Step}
use Rattle.lb_desk_law.specs.Headline.{places_of, IsStaleExactly, IsStaleOnceChanged, IsMoved, IsBadExactly}
use Rattle.lb_desk_law.proofs.Accepted.{best_of_accepted}
use Rattle.lb_desk_law.proofs.Apart.{Apart, all_moved, apart-moved, apart-pairs}
use Rattle.lb_desk_law.proofs.SameViews.{same_view-equal}
use Rattle.lb_desk_law.proofs.Versions.{history-version, changed-grows, grown-changed}

-- ---- pins at new places

map-kept : {A : Type 0} (f : TablePin → A) → ((p : TablePin) (to : Option ℕ) → f (moved_to p to) ≡ f p) → (pins : List TablePin) (places : List (Option ℕ))
    → length places ≡ length pins → map f (all_moved pins places) ≡ map f pins
map-kept f same [] places e = refl
map-kept f same (p ∷ pins) [] e = absurd (omega arith)
map-kept f same (p ∷ pins) (to ∷ places) e = rw (same p to, map-kept f same pins places (omega arith)) refl

places-moved : (pins : List TablePin) (places : List (Option ℕ)) → length places ≡ length pins → map (λ p. p.pin.place) (all_moved pins places) ≡ places
places-moved [] [] e = refl
places-moved [] (to ∷ places) e = absurd (omega arith)
places-moved (p ∷ pins) [] e = absurd (omega arith)
places-moved (p ∷ pins) (to ∷ places) e = rw (places-moved pins places (omega arith)) refl

abbrev placed : State → List (Option ℕ) → ℕ → State
placed old places version = record old { pins = all_moved old.pins places; version = version }

as_many : (old : State) (plan : PlanParts) (places : List (Option ℕ)) → Agrees plan.rows (kinds_of (view_of old)) places → length places ≡ length old.pins
as_many old plan places agrees =
    agrees.whole ∙ (length-map (map (λ (p : TablePin). p.pin) old.pins) (kind_of (view_of old).usable) ∙ length-map old.pins (λ (p : TablePin). p.pin))

pub is_moved : (old : State) (plan : PlanParts) (places : List (Option ℕ)) (version : ℕ) (new : State) → Apart old.pins
    → Agrees plan.rows (kinds_of (view_of old)) places → new ≡ placed old places version → IsMoved old plan new
is_moved old plan places version new apart agrees e =
    let many = as_many old plan places agrees in
    record {
      names = rw e (map-kept {A = PinId} (λ p. p.pin.id) (λ p to. refl) old.pins places many);
      once = rw e (apart-pairs (all_moved old.pins places) (apart-moved old.pins places apart));
      last_uses = rw e (map-kept {A = ℕ} (λ p. p.last_use) (λ p to. refl) old.pins places many);
      costs = rw e (map-kept {A = ℕ} (λ p. p.pin.cost) (λ p to. refl) old.pins places many);
      others = rw e refl;
      agrees = rw (e, places-moved old.pins places many) agrees;
    }

-- ---- an installed plan

pub record Outcome (old : State) (plan : PlanParts) (score : Score) (new : State) : Type 0 where
  pub accepted : Score
  pub judges : Judges old plan (Ok accepted)
  pub places : List (Option ℕ)
  pub agrees : Agrees plan.rows (kinds_of (view_of old)) places
  pub score_is : score ≡ score_of (kinds_of (view_of old)) places
  pub version : ℕ
  pub is : new ≡ placed old places version

outcome_at : (old : State) (plan : PlanParts) (score : Score) (acted new : State) (version : ℕ) → (i : Installs old plan score acted)
    → new ≡ placed old i.places version → Outcome old plan score new
outcome_at old plan score acted new version i e = record {
  accepted = i.accepted;
  judges = i.judges;
  places = i.places;
  agrees = i.agrees;
  score_is = i.score_is;
  version = version;
  is = e;
}

pub outcome : (old : State) (plan : PlanParts) (reply : Reply) (score : Score) (new : State) → Step old (Install plan) reply new → reply ≡ Installed score
    → Outcome old plan score new
outcome old plan reply score new step e =
    let installed : Step old (Install plan) (Installed score) new = subst (λ (r : Reply). Step old (Install plan) r new) e step in
    let i : Installs old plan score installed.acted = installed.does.1 in
    elim installed.counts [
      | inl same ↦ outcome_at old plan score installed.acted new old.version i (same.1 ∙ i.new_is)
      | inr more ↦
          outcome_at old plan score installed.acted new (old.version + 1) i
          (more.1 ∙ ap (λ (s : State). record s { version = old.version + 1 }) i.new_is)
    ]

places-are : (old : State) (plan : PlanParts) (score : Score) (new : State) → (o : Outcome old plan score new) → places_of new ≡ o.places
places-are old plan score new o = rw o.is (places-moved old.pins o.places (as_many old plan o.places o.agrees))

pub outcome-moved : (old : State) (plan : PlanParts) (score : Score) (new : State) → Apart old.pins → Outcome old plan score new → IsMoved old plan new
outcome-moved old plan score new apart o = is_moved old plan o.places o.version new apart o.agrees o.is

pub outcome-best : (old : State) (plan : PlanParts) (score : Score) (new : State) → Outcome old plan score new
    → IsBest (capacities (view_of old)) (kinds_of (view_of old)) (places_of new) × (score ≡ score_of (kinds_of (view_of old)) (places_of new))
outcome-best old plan score new o =
    let places = places-are old plan score new o in
    let best = best_of_accepted o.judges.sheet plan o.accepted o.judges.of.lawful o.judges.verdict in
    (rw places (best.best (view_of old) o.places o.judges.of.stands o.agrees), rw places o.score_is)

-- ---- a refused plan

pub acted_same : (old acted new : State) → acted ≡ old → Counts old acted new → new ≡ old
acted_same old acted new e counts =
    elim counts [
      | inl same ↦ same.1 ∙ e
      | inr more ↦ absurd (more.0 (same_view-equal old acted e))
    ]

pub judges-same : (old : State) (plan : PlanParts) (a b : Result Score CheckFault) → Judges old plan a → Judges old plan b → a ≡ b
judges-same old plan a b j k =
    let sheets : j.sheet ≡ k.sheet = one_sheet (view_of old) j.sheet k.sheet j.of.lawful k.of.lawful (j.of.version ∙ sym k.of.version) j.of.stands k.of.stands in
    let verdicts : verdict j.sheet plan ≡ verdict k.sheet plan = ap (λ (s : SheetParts). verdict s plan) sheets in
    sym j.verdict ∙ (verdicts ∙ k.verdict)

stale-does : (old : State) (plan : PlanParts) (reply : Reply) (acted : State) → Does old (Install plan) reply acted → plan.version ≢ old.version
    → reply ≡ Refused Stale
stale-does old plan (Refused Stale) acted d other = refl
stale-does old plan (Refused (Bad fault)) acted d other = absurd (other d.0)
stale-does old plan (Installed score) acted d other = absurd (other d.0)
stale-does old plan reply acted d other = absurd d

pub stale-exactly : (old : State) (plan : PlanParts) (reply : Reply) (new : State) → Step old (Install plan) reply new → IsStaleExactly old plan reply new
stale-exactly old plan reply new step = record {
  exact = (λ e. (at e).does.0, stale-does old plan reply step.acted step.does);
  unchanged = λ e. acted_same old (at e).acted new (at e).does.1 (at e).counts;
}
  where
    at : reply ≡ Refused Stale → Step old (Install plan) (Refused Stale) new
    at e = subst (λ (r : Reply). Step old (Install plan) r new) e step

-- where the plan has the version of an earlier point, it is stale exactly where some step since then changed the view
pub stale-once-changed : (point : State) (late : List Entry) (old : State) (plan : PlanParts) (reply : Reply) (new : State) → (since : History point late old)
    → Step old (Install plan) reply new → IsStaleOnceChanged point late old since plan reply
stale-once-changed point late old plan reply new since step version =
    let stale = stale-exactly old plan reply new step in
    let later : point.version ≤ old.version = history-version point late old since in (
      λ e.
          let other : plan.version ≢ old.version = stale.exact.0 e in
          grown-changed point late old since (omega (arith, other)),
      λ changed.
          let grown : point.version < old.version = changed-grows point late old since changed in
          stale.exact.1 (λ (same : plan.version ≡ old.version). omega (arith, same)),
    )

bad-does : (old : State) (plan : PlanParts) (reply : Reply) (acted : State) (fault : CheckFault) → Does old (Install plan) reply acted
    → plan.version ≡ old.version → Judges old plan (Err fault) → reply ≡ Refused (Bad fault)
bad-does old plan (Refused Stale) acted fault d version judges = absurd (d.0 version)
bad-does old plan (Refused (Bad other)) acted fault d version judges =
    let same = judges-same old plan (Err other) (Err fault) d.1 judges in
    cc
bad-does old plan (Installed score) acted fault d version judges =
    let same : Ok d.1.accepted ≡ Err fault = judges-same old plan (Ok d.1.accepted) (Err fault) d.1.judges judges in
    absurd cc
bad-does old plan reply acted fault d version judges = absurd d

pub bad-exactly : (old : State) (plan : PlanParts) (reply : Reply) (new : State) → Step old (Install plan) reply new → IsBadExactly old plan reply new
bad-exactly old plan reply new step fault = (
  λ version. (λ e. (at e).does.1, bad-does old plan reply step.acted fault step.does version),
  λ e. acted_same old (at e).acted new (at e).does.2 (at e).counts,
)
  where
    at : reply ≡ Refused (Bad fault) → Step old (Install plan) (Refused (Bad fault)) new
    at e = subst (λ (r : Reply). Step old (Install plan) r new) e step
