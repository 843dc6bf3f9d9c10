-- How versions grow along a history.
use Rattle.std.proofs.Common.{◌≡◌, ◌⊎◌, ℕ, ◌+◌, ◌<◌, ◌≤◌, List, [], ◌∷◌, sym, ap, ◌∙◌, inl, inr, arith}
use Rattle.server_state.specs.declared.checked.Checked.TheVariants.{Took, Ignored}
use Rattle.lb_desk_model.specs.declared.entry.Entry.{Entry}
use Rattle.lb_desk_model.specs.declared.event.Event.{Event}
use Rattle.lb_desk_model.specs.declared.event.Event.TheVariants.{Serve, Set, Clear, Open, Close, Expire, Check, Command, Snapshot, Install}
use Rattle.lb_desk_model.specs.declared.event.Request.{Request}
use Rattle.lb_desk_model.specs.declared.event.SetPin.{SetPin}
use Rattle.lb_desk_model.specs.declared.reply.Refusal.TheVariants.{NoSuchServer, Full, NotServing, NotOpen, TableFull, Stale, Bad, NoServer}
use Rattle.lb_desk_model.specs.declared.reply.Reply.{Reply}
use Rattle.lb_desk_model.specs.declared.reply.Reply.TheVariants.{Served, Pinned, NoTable, Cleared, NoPin, Opened, Closed, Expired, Checked, Done, Sheet, Installed, Refused}
use Rattle.lb_desk_model.specs.declared.reply.PinnedAs.{PinnedAs}
use Rattle.lb_desk_model.specs.declared.reply.PinnedAs.TheVariants as Put
use Rattle.lb_desk_model.specs.declared.reply.ServedAs.{ServedAs}
use Rattle.lb_desk_model.specs.declared.reply.ServedAs.TheVariants.{Kept, Moved, Made, Loose}
use Rattle.lb_desk_model.specs.Histories.{History, Changed}
use Rattle.lb_desk_model.specs.Serves.{Serves}
use Rattle.lb_desk_model.specs.Sets.{Sets}
use Rattle.lb_desk_model.specs.States.{State, SameView, view_of}
use Rattle.lb_desk_model.specs.Steps.{Does, Step}
use Rattle.lb_desk_law.proofs.SameViews.{same_view-refl, same_view-trans}

abbrev version_of : State → ℕ
version_of s = s.version

serves-version : (old : State) (request : Request) (server : ℕ) (how : ServedAs) (new : State) → Serves old request server how new → new.version ≡ old.version
serves-version old request server Kept new s = ap version_of s.4
serves-version old request server Moved new s = ap version_of s.6
serves-version old request server Made new s = ap version_of s.4
serves-version old request server Loose new s = ap version_of s.3

sets-version : (old : State) (set : SetPin) (how : PinnedAs) (new : State) → Sets old set how new → new.version ≡ old.version
sets-version old set Put.Kept new s = ap version_of s.5
sets-version old set Put.Moved new s = ap version_of s.5
sets-version old set Put.Made new s = ap version_of s.2

pub does-version : (old : State) (event : Event) (reply : Reply) (new : State) → Does old event reply new → new.version ≡ old.version
does-version old (Serve request) (Served server how) new d = serves-version old request server how new d.1
does-version old (Serve request) (Refused NoSuchServer) new d = ap version_of d.1
does-version old (Serve request) (Refused NoServer) new d = ap version_of d.2
does-version old (Set set) (Pinned how) new d = sets-version old set how new d.2
does-version old (Set set) NoTable new d = ap version_of d.2
does-version old (Set set) (Refused NoSuchServer) new d = ap version_of d.1
does-version old (Set set) (Refused TableFull) new d = ap version_of d.3
does-version old (Clear name) Cleared new d = ap version_of d.new_is
does-version old (Clear name) NoPin new d = ap version_of d.1
does-version old (Open server) Opened new d = ap version_of d.new_is
does-version old (Open server) (Refused NotServing) new d = ap version_of d.1
does-version old (Open server) (Refused Full) new d = ap version_of d.2
does-version old (Close server) Closed new d = ap version_of d.new_is
does-version old (Close server) (Refused NotOpen) new d = ap version_of d.1
does-version old (Expire now) (Expired count) new d = ap version_of d.1
does-version old (Check server ok) (Checked (Took flip)) new d = ap version_of d.new_is
does-version old (Check server ok) (Checked Ignored) new d = ap version_of d.1
does-version old (Check server ok) (Refused refusal) new d = ap version_of d.1
does-version old (Command change) Done new d = ap version_of d.new_is
does-version old (Command change) (Refused refusal) new d = ap version_of d.1
does-version old Snapshot (Sheet sheet) new d = ap version_of d.1
does-version old (Install plan) (Refused Stale) new d = ap version_of d.1
does-version old (Install plan) (Refused (Bad fault)) new d = ap version_of d.2
does-version old (Install plan) (Installed score) new d = ap version_of d.1.new_is
does-version old event reply new d = absurd d

-- a step leaves the view and the version, or changes both
pub step-cases : (old : State) (event : Event) (reply : Reply) (new : State) → Step old event reply new
    → (SameView (view_of old) (view_of new) × (new.version ≡ old.version))
    ⊎ ((SameView (view_of old) (view_of new) → ⊥) × (new.version ≡ old.version + 1))
step-cases old event reply new step =
    let kept : step.acted.version ≡ old.version = does-version old event reply step.acted step.does in
    elim step.counts [
      | inl same ↦ inl (rw same.1 same.0, ap version_of same.1 ∙ kept)
      | inr more ↦ inr (rw more.1 more.0, ap version_of more.1)
    ]

pub history-version : (old : State) (entries : List Entry) (new : State) → History old entries new → old.version ≤ new.version
history-version old [] new history = let e : new.version ≡ old.version = ap version_of history in omega arith
history-version old (entry ∷ entries) new history =
    let later : history.0.version ≤ new.version = history-version history.0 entries new history.2 in
    elim (step-cases old entry.event entry.reply history.0 history.1) [
      | inl same ↦ omega (arith, same.1)
      | inr more ↦ omega (arith, more.1)
    ]

-- two points of a history with one version have one view
pub history-same : (old : State) (entries : List Entry) (new : State) → History old entries new → new.version ≡ old.version
    → SameView (view_of old) (view_of new)
history-same old [] new history e = rw history (same_view-refl (view_of old))
history-same old (entry ∷ entries) new history e =
    let later : history.0.version ≤ new.version = history-version history.0 entries new history.2 in
    elim (step-cases old entry.event entry.reply history.0 history.1) [
      | inl same ↦
          same_view-trans (view_of old) (view_of history.0) (view_of new) same.0
          (history-same history.0 entries new history.2 (e ∙ sym same.1))
      | inr more ↦ absurd (omega (arith, more.1))
    ]

-- the version has grown exactly where some step changed the view
pub changed-grows : (old : State) (entries : List Entry) (new : State) → (history : History old entries new) → Changed old entries new history
    → old.version < new.version
changed-grows old [] new history changed = absurd changed
changed-grows old (entry ∷ entries) new history changed =
    let later : history.0.version ≤ new.version = history-version history.0 entries new history.2 in
    elim (step-cases old entry.event entry.reply history.0 history.1) [
      | inl same ↦ elim changed [
        | inl here ↦ absurd (here same.0)
        | inr there ↦
            let grown : history.0.version < new.version = changed-grows history.0 entries new history.2 there in
            omega (arith, same.1)
      ]
      | inr more ↦ omega (arith, more.1)
    ]

pub grown-changed : (old : State) (entries : List Entry) (new : State) → (history : History old entries new) → old.version < new.version
    → Changed old entries new history
grown-changed old [] new history grown = let e : new.version ≡ old.version = ap version_of history in absurd (omega arith)
grown-changed old (entry ∷ entries) new history grown =
    elim (step-cases old entry.event entry.reply history.0 history.1) [
      | inl same ↦ inr (grown-changed history.0 entries new history.2 (rw same.1 grown))
      | inr more ↦ inl more.0
    ]
