-- Tries that fail, one after another, and the last one.
use Rattle.std.proofs.Common.{◌≡◌, ◌≢◌, ℕ, ◌+◌, ◌-◌, ◌<◌, ◌≤◌, List, [], ◌∷◌, ◌++◌, length, Result, Ok, Err, refl, sym, ap, ◌∙◌, subst, inl, inr, append_assoc, length-append, arith}
use Rattle.std.proofs.lemmas.List.{append-nil}
use Rattle.std.proofs.lemmas.List.Elements.{Contains-push}
use Rattle.pin_set.specs.declared.totals.Score.{Score}
use Rattle.dual_cert_plan.specs.Plans.{PlanParts}
use Rattle.dual_cert_plan.specs.Sheets.{SheetParts}
use Rattle.flow_planner_law.specs.Accepted.{IsAccepted}
use Rattle.lb_desk_model.specs.declared.entry.Entry.{Entry}
use Rattle.lb_desk_model.specs.declared.event.Event.TheVariants.{Snapshot, Install}
use Rattle.lb_desk_model.specs.declared.reply.Reply.TheVariants.{Sheet}
use Rattle.lb_desk_ports.specs.declared.refused.Refused.{Refused}
use Rattle.lb_desk_ports.specs.declared.replies.Installing.{Installing}
use Rattle.lb_desk_ports.specs.declared.replies.Installing.TheVariants.{Installed, Stale}
use Rattle.lb_desk_ports.specs.Calls.{entry, counted}
use Rattle.lb_desk_ports.specs.Movers.{IsPlanFor, IsPlanned, PlansNow, snapshot_entries, installing_entries}
use Rattle.lb_desk_evacuate.specs.declared.evacuating.Evacuation.TheVariants.{Done, AllStale}
use Rattle.lb_desk_evacuate.specs.Evacuations.{Try, entries_of, all_entries, Fails, AllFail, AddsTry, installing, IsLast, Evacuates}

-- ---- one try

pub accepted_fits : (sheet : SheetParts) (plan : PlanParts) → IsAccepted sheet plan → plan.version ≡ sheet.version → IsPlanFor sheet plan
accepted_fits sheet plan accepted version = record { version = version; accepted = rw accepted.accepted refl }

pub tried : (sheet : SheetParts) (plan : PlanParts) (answer : Result Installing Refused) (old taken new : List Entry) → IsPlanFor sheet plan
    → taken ≡ old ++ snapshot_entries (Ok sheet) → new ≡ taken ++ installing_entries plan answer → AddsTry answer old new
tried sheet plan (Ok answer) old taken new fit first second =
    let joined : new ≡ (old ++ entry Snapshot (Sheet sheet) ∷ []) ++ installing_entries plan (Ok answer) =
    second ∙ ap (λ (xs : List Entry). xs ++ installing_entries plan (Ok answer)) first in (
      record { sheet = sheet; plan = plan; fit = fit; answer = answer },
      refl,
      joined ∙ append_assoc old (entry Snapshot (Sheet sheet) ∷ []) (installing_entries plan (Ok answer)),
    )
tried sheet plan (Err refused) old taken new fit first second = inr (sheet, second ∙ append-nil taken ∙ first)

-- a plan for the sheet that was just given
pub is_planned : (sheet : SheetParts) (plan : PlanParts) (old taken : List Entry) → IsPlanFor sheet plan → taken ≡ old ++ snapshot_entries (Ok sheet)
    → IsPlanned taken plan
is_planned sheet plan old taken fit is = record {
  sheet = sheet;
  given = rw is (Contains-push old (entry Snapshot (Sheet sheet)));
  fit = fit;
}

-- the sheet was taken, and no plan was made for it
pub sheet_alone : (sheet : SheetParts) (refused : Refused) (old new : List Entry) → new ≡ old ++ snapshot_entries (Ok sheet) → AddsTry (Err refused) old new
sheet_alone sheet refused old new is = inr (sheet, is)

-- ---- tries that failed

-- so many tries less one have failed: the next one has this number
pub record HaveFailed (next : ℕ) (old new : List Entry) : Type 0 where
  pub failed : List Try
  pub fail : AllFail failed
  pub many : length failed + 1 ≡ next
  pub entries : new ≡ old ++ all_entries failed

pub none_failed : (old : List Entry) → HaveFailed 1 old old
none_failed old = record { failed = []; fail = tt; many = refl; entries = sym (append-nil old) }

all_fail_snoc : (ts : List Try) (t : Try) → AllFail ts → Fails t.answer → AllFail (ts ++ t ∷ [])
all_fail_snoc [] t fail last = (last, tt)
all_fail_snoc (u ∷ us) t fail last = (fail.0, all_fail_snoc us t fail.1 last)

all_entries_snoc : (ts : List Try) (t : Try) → all_entries (ts ++ t ∷ []) ≡ all_entries ts ++ entries_of t
all_entries_snoc [] t = append-nil (entries_of t)
all_entries_snoc (u ∷ us) t =
    ap (λ (es : List Entry). entries_of u ++ es) (all_entries_snoc us t) ∙ sym (append_assoc (entries_of u) (all_entries us) (entries_of t))

one_fails : (answer : Installing) → ((score : Score) → answer ≡ Installed score → ⊥) → Fails answer
one_fails (Installed score) none = none score refl
one_fails Stale none = tt

pub one_failed_more : (next : ℕ) (answer : Installing) (old between new : List Entry) → HaveFailed next old between
    → AddsTry (Ok answer) between new → ((score : Score) → answer ≡ Installed score → ⊥) → HaveFailed (next + 1) old new
one_failed_more next answer old between new have adds none =
    let t = adds.0 in
    let fails : Fails t.answer = subst Fails (sym adds.1) (one_fails answer none) in
    let many = have.many in record {
      failed = have.failed ++ t ∷ [];
      fail = all_fail_snoc have.failed t have.fail fails;
      many = omega (arith, length-append have.failed (t ∷ []));
      entries = adds.2 ∙ ap (λ (es : List Entry). es ++ entries_of t) have.entries
          ∙ append_assoc old (all_entries have.failed) (entries_of t)
          ∙ ap (λ (es : List Entry). old ++ es) (sym (all_entries_snoc have.failed t));
    }

-- ---- the last try

tried_last : (tries failed : ℕ) (answer : Result Score Refused) (old between new : List Entry) (planned after : ℕ) → between ≡ old
    → failed + 1 < tries → AddsTry (installing answer) between new → after ≡ planned → IsLast tries failed answer old new planned after
tried_last tries failed answer old between new planned after is more adds same =
    inl (more, subst (λ (es : List Entry). AddsTry (installing answer) es new) is adds, same)

pub done_in_a_try : (tries next : ℕ) (answer : Installing) (score : Score) (old between new : List Entry) (planned after : ℕ)
    → HaveFailed next old between → next < tries → answer ≡ Installed score → AddsTry (Ok answer) between new → after ≡ planned
    → Evacuates tries (Ok (Done score)) old new planned after
done_in_a_try tries next answer score old between new planned after have more is adds same =
    let installed : AddsTry (Ok (Installed score)) between new = subst (λ (a : Installing). AddsTry (Ok a) between new) is adds in
    let many = have.many in record {
      failed = have.failed;
      fail = have.fail;
      ends = tried_last tries (length have.failed) (Ok score) (old ++ all_entries have.failed) between new planned after have.entries (omega arith) installed same;
    }

pub refused_in_a_try : (tries next : ℕ) (refused : Refused) (old between new : List Entry) (planned after : ℕ)
    → HaveFailed next old between → next < tries → AddsTry (Err refused) between new → after ≡ planned
    → Evacuates tries (Err refused) old new planned after
refused_in_a_try tries next refused old between new planned after have more adds same =
    let many = have.many in record {
      failed = have.failed;
      fail = have.fail;
      ends = tried_last tries (length have.failed) (Err refused) (old ++ all_entries have.failed) between new planned after have.entries (omega arith) adds same;
    }

-- the loop is over, and a try is left
at_the_last : (tries next failed : ℕ) → failed + 1 ≡ next → tries ≤ next → next ≤ 1 + (tries - 1) → tries ≢ 0 → failed + 1 ≡ tries
at_the_last tries next failed many from to some = omega arith

planned_last : (tries failed : ℕ) (answer : Result Score Refused) (old between new : List Entry) (planned after : ℕ) → between ≡ old
    → failed + 1 ≡ tries → PlansNow between new answer → after ≡ counted planned → IsLast tries failed answer old new planned after
planned_last tries failed answer old between new planned after is last plans more =
    inr (last, subst (λ (es : List Entry). PlansNow es new answer) is plans, more)

pub done_now : (tries next : ℕ) (score : Score) (old between new : List Entry) (planned after : ℕ)
    → HaveFailed next old between → tries ≤ next → next ≤ 1 + (tries - 1) → tries ≢ 0 → PlansNow between new (Ok score) → after ≡ counted planned
    → Evacuates tries (Ok (Done score)) old new planned after
done_now tries next score old between new planned after have from to some plans more = record {
  failed = have.failed;
  fail = have.fail;
  ends = planned_last tries (length have.failed) (Ok score) (old ++ all_entries have.failed) between new planned after have.entries
      (at_the_last tries next (length have.failed) have.many from to some) plans more;
}

pub refused_now : (tries next : ℕ) (refused : Refused) (old between new : List Entry) (planned after : ℕ)
    → HaveFailed next old between → tries ≤ next → next ≤ 1 + (tries - 1) → tries ≢ 0 → PlansNow between new (Err refused) → after ≡ counted planned
    → Evacuates tries (Err refused) old new planned after
refused_now tries next refused old between new planned after have from to some plans more = record {
  failed = have.failed;
  fail = have.fail;
  ends = planned_last tries (length have.failed) (Err refused) (old ++ all_entries have.failed) between new planned after have.entries
      (at_the_last tries next (length have.failed) have.many from to some) plans more;
}

pub no_try : (tries next : ℕ) (old new : List Entry) (planned after : ℕ) → HaveFailed next old new → tries ≡ 0 → next ≤ 1 + (tries - 1)
    → after ≡ planned → Evacuates tries (Ok AllStale) old new planned after
no_try tries next old new planned after have none to same =
    let many = have.many in
    let zero : length have.failed ≡ 0 = omega arith in
    record { failed = have.failed; fail = have.fail; ends = (none, zero, have.entries, same) }
