-- A plan that is accepted for a snapshot of the history is accepted wherever its version still holds.
use Rattle.std.proofs.Common.{◌≡◌, ◌⊎◌, ℕ, zero, suc, ◌<◌, List, [], ◌∷◌, ◌++◌, length, sym, ap, ◌∙◌, inl, inr, arith}
use Rattle.std.specs.Prelude.{Contains, Result, Ok, Err}
use Rattle.pin_set.specs.declared.totals.Score.{Score}
use Rattle.dual_cert_plan.specs.Plans.{PlanParts}
use Rattle.dual_cert_plan.specs.Sheets.{SheetParts}
use Rattle.cert_check.specs.declared.fault.CheckFault.{CheckFault}
use Rattle.cert_check.specs.Verdict.{verdict}
use Rattle.lb_desk_model.specs.declared.entry.Entry.{Entry}
use Rattle.lb_desk_model.specs.declared.event.Event.TheVariants.{Snapshot, Install}
use Rattle.lb_desk_model.specs.declared.reply.Refusal.TheVariants.{Bad}
use Rattle.lb_desk_model.specs.declared.reply.Reply.TheVariants.{Sheet, Refused}
use Rattle.lb_desk_model.specs.Histories.{History}
use Rattle.lb_desk_model.specs.Installs.{IsSheetOf, Judges}
use Rattle.lb_desk_model.specs.States.{State, SameView, opening, view_of}
use Rattle.lb_desk_model.specs.Steps.{Step}
use Rattle.lb_desk_law.specs.Worlds.{entry, AcceptedAreNeverBad}
use Rattle.lb_desk_law.proofs.Installs.{acted_same, judges-same}
use Rattle.lb_desk_law.proofs.Parts.{cut}
use Rattle.lb_desk_law.proofs.SameViews.{same_view-sym, stands-same_view}
use Rattle.lb_desk_law.proofs.Versions.{history-same}

-- ---- an entry among others

abbrev Among : Entry → List Entry → Type 0
Among x [] = ⊥
Among x (e ∷ es) = (e ≡ x) ⊎ Among x es

among-at : (x : Entry) (es : List Entry) (k : ℕ) → k < length es → Rattle.std.specs.Prelude.slice_index_or es k x ≡ x → Among x es
among-at x [] k below is = absurd (omega arith)
among-at x (e ∷ es) zero below is = inl is
among-at x (e ∷ es) (suc k) below is = inr (among-at x es k (omega arith) is)

among-append : (x : Entry) (es fs : List Entry) → Among x (es ++ fs) → Among x es ⊎ Among x fs
among-append x [] fs among = inr among
among-append x (e ∷ es) fs among =
    elim among [
      | inl here ↦ inl (inl here)
      | inr there ↦ elim (among-append x es fs there) [ inl first ↦ inl (inr first) | inr second ↦ inr second ]
    ]

record Parted (x : Entry) (es : List Entry) : Type 0 where
  before : List Entry
  after : List Entry
  is : es ≡ before ++ x ∷ after

among-parted : (x : Entry) (es : List Entry) → Among x es → Parted x es
among-parted x [] among = absurd among
among-parted x (e ∷ es) among =
    elim among [
      | inl here ↦ record { before = []; after = es; is = ap (λ (y : Entry). y ∷ es) here }
      | inr there ↦
          let rest = among-parted x es there in
          record { before = e ∷ rest.before; after = rest.after; is = ap (λ (ys : List Entry). e ∷ ys) rest.is }
    ]

-- the states round an entry of a history
record Round (start : State) (x : Entry) (end : State) : Type 0 where
  early : List Entry
  late : List Entry
  old : State
  new : State
  before : History start early old
  step : Step old x.event x.reply new
  after : History new late end

round-among : (start : State) (es : List Entry) (end : State) (x : Entry) → History start es end → Among x es → Round start x end
round-among start es end x history among =
    let parts = among-parted x es among in
    let whole : History start (parts.before ++ x ∷ parts.after) end = rw parts.is at history in
    let found = cut parts.before (x ∷ parts.after) start end whole in
    record {
      early = parts.before;
      late = parts.after;
      old = found.0;
      new = found.2.0;
      before = found.1;
      step = found.2.1;
      after = found.2.2;
    }

-- ---- the law

never_both : (state : State) (plan : PlanParts) (sheet : SheetParts) (score : Score) (fault : CheckFault) → IsSheetOf state sheet
    → verdict sheet plan ≡ Ok score → Judges state plan (Err fault) → ⊥
never_both state plan sheet score fault of accepted judges =
    let same : Ok score ≡ Err fault = judges-same state plan (Ok score) (Err fault) (record { sheet = sheet; of = of; verdict = accepted }) judges in
    cc

pub sheet-moved : (a b : State) (sheet : SheetParts) → SameView (view_of a) (view_of b) → a.version ≡ b.version → IsSheetOf a sheet → IsSheetOf b sheet
sheet-moved a b sheet same versions of = record {
  lawful = of.lawful;
  version = of.version ∙ versions;
  stands = stands-same_view sheet (view_of a) (view_of b) same of.stands;
}

-- the state before an install that is answered Bad
bad_before : (plan : PlanParts) (fault : CheckFault) (old new : State) → Step old (Install plan) (Refused (Bad fault)) new
    → (plan.version ≡ old.version) × Judges old plan (Err fault) × (new ≡ old)
bad_before plan fault old new step = (step.does.0, step.does.1, acted_same old step.acted new step.does.2 step.counts)

never_equal : (sheet : SheetParts) (plan : PlanParts) (fault : CheckFault) → entry Snapshot (Sheet sheet) ≡ entry (Install plan) (Refused (Bad fault)) → ⊥
never_equal sheet plan fault equal =
    let events : Snapshot ≡ Install plan = ap (λ (e : Entry). e.event) equal in
    cc

pub accepted_are_never_bad : AcceptedAreNeverBad
accepted_are_never_bad backend entries end plan fault history accepted bad =
    let snapshot = entry Snapshot (Sheet accepted.sheet) in
    let install = entry (Install plan) (Refused (Bad fault)) in
    let taken = among-at snapshot entries accepted.taken.0 accepted.taken.1 accepted.taken.2 in
    let parts = among-parted snapshot entries taken in
    let there : Among install (parts.before ++ snapshot ∷ parts.after) = rw parts.is at (among-at install entries bad.0 bad.1 bad.2) in
    let whole : History (opening backend) (parts.before ++ snapshot ∷ parts.after) end = rw parts.is at history in
    let found = cut parts.before (snapshot ∷ parts.after) (opening backend) end whole in
    let at : State = found.0 in
    let of : IsSheetOf at accepted.sheet = found.2.1.does.0 in
    let kept : found.2.0 ≡ at = acted_same at found.2.1.acted found.2.0 found.2.1.does.1 found.2.1.counts in
    let after : History at parts.after end = rw kept at found.2.2 in
    elim (among-append install parts.before (snapshot ∷ parts.after) there) [
      | inl early ↦
          let r = round-among (opening backend) parts.before at install found.1 early in
          let b = bad_before plan fault r.old r.new r.step in
          let versions : at.version ≡ r.old.version = sym of.version ∙ (sym accepted.version ∙ b.0) in
          let since : History r.old r.late at = rw b.2 at r.after in
          let same = history-same r.old r.late at since versions in
          never_both r.old plan accepted.sheet accepted.score fault
          (sheet-moved at r.old accepted.sheet (same_view-sym (view_of r.old) (view_of at) same) versions of)
          accepted.accepted b.1
      | inr late ↦ elim late [
        | inl equal ↦ never_equal accepted.sheet plan fault equal
        | inr behind ↦
            let r = round-among at parts.after end install after behind in
            let b = bad_before plan fault r.old r.new r.step in
            let versions : r.old.version ≡ at.version = sym b.0 ∙ (accepted.version ∙ of.version) in
            let same = history-same at r.early r.old r.before versions in
            never_both r.old plan accepted.sheet accepted.score fault
            (sheet-moved at r.old accepted.sheet same (sym versions) of) accepted.accepted b.1
      ]
    ]
