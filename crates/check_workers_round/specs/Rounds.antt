-- When servers are checked, and what a round of checks does: HAProxy Configuration Manual 2.8, `inter` (the time between two checks of a
-- server). Our own: it is counted from one probe's begin to the next. Probes of several servers overlap, those of one server don't.
use Rattle.std.specs.Prelude.{◌≡◌, ℕ, ◌+◌, ◌-◌, ◌^◌, ◌<◌, ◌≤◌, min, Bool, true, false, List, [], ◌∷◌, take, Option, Some, None, slice_get, slice_set, All}
use Rattle.lb_desk_model.specs.declared.entry.Entry.{Entry}
use Rattle.lb_desk_ports.specs.Calls.{after_call}
use Rattle.lb_desk_ports.specs.Ports.{filing_entries}
use Rattle.check_workers_round.specs.Probing.{probed}
use Rattle.check_workers_round.specs.declared.check.Check.{Check}
use Rattle.check_workers_round.specs.declared.probes.Probed.{Probed}
use Rattle.check_workers_round.specs.declared.outcome.CheckMade.{CheckMade}
use Rattle.check_workers_round.specs.declared.outcome.Beginning.{Beginning}
use Rattle.check_workers_round.specs.declared.outcome.Beginning.TheVariants.{Begun, NotDue, NoneFree}

-- the check is due again so long after a probe that began at this moment
abbrev pub again_after : ℕ → Check → Check
again_after begun check = record check { due = min (begun + check.interval) (2 ^ 64 - 1) }

-- no probe of the check's server is under way
abbrev pub IsFree : List Bool → Check → Type 0
IsFree under_way check = slice_get under_way check.server ≡ Some false

-- of the checks whose servers are free the one at this place is due first: none is due before it, and none in front of it as soon
pub record IsFirst (under_way : List Bool) (checks : List Check) (place : ℕ) (check : Check) : Type 0 where
  pub at : slice_get checks place ≡ Some check
  pub free : IsFree under_way check
  pub soonest : All (λ other. IsFree under_way other → check.due ≤ other.due) checks
  pub foremost : All (λ other. IsFree under_way other → check.due < other.due) (take place checks)

-- The check of this server was due first, and it was due. It alone is put off
pub record PutsOff (under_way : List Bool) (checks later : List Check) (begun server : ℕ) : Type 0 where
  pub place : ℕ
  pub check : Check
  pub first : IsFirst under_way checks place check
  pub server_is : server ≡ check.server
  pub due : check.due ≤ begun
  pub later_is : later ≡ slice_set checks place (again_after begun check)

-- the check that is due first is due in so long, and none is put off
pub record WaitsFor (under_way : List Bool) (checks later : List Check) (begun wait : ℕ) : Type 0 where
  pub place : ℕ
  pub check : Check
  pub first : IsFirst under_way checks place check
  pub due : begun + wait ≡ check.due
  pub some : 0 < wait
  pub kept : later ≡ checks

-- no server of the checks is free, and none is put off
abbrev pub WaitsForProbes : List Bool → List Check → List Check → Type 0
WaitsForProbes under_way checks later = All (λ check. ¬ IsFree under_way check) checks × (later ≡ checks)

-- what a round that began at this moment did with the checks
abbrev pub Schedules : List Bool → List Check → List Check → ℕ → Beginning → Type 0
Schedules under_way checks later begun (Begun server) = PutsOff under_way checks later begun server
Schedules under_way checks later begun (NotDue wait) = WaitsFor under_way checks later begun wait
Schedules under_way checks later begun NoneFree = WaitsForProbes under_way checks later

-- the servers whose probes a round began
abbrev pub begun_by : Beginning → List ℕ
begun_by (Begun server) = server ∷ []
begun_by (NotDue wait) = []
begun_by NoneFree = []

-- the probes that are under way once it has
abbrev pub with_begun : List Bool → Beginning → List Bool
with_begun under_way (Begun server) = slice_set under_way server true
with_begun under_way (NotDue wait) = under_way
with_begun under_way NoneFree = under_way

-- the probe whose result was filed
abbrev pub ended_by : Option CheckMade → Option Probed
ended_by (Some made) = Some (probed made.server made.ok)
ended_by None = None

-- the entries that a round adds to the backend's: the result of the probe that ended, under the server that was probed
abbrev pub entries_of : Option CheckMade → List Entry
entries_of (Some made) = filing_entries made.server made.ok made.filed
entries_of None = []

-- the count of refusals after a round
abbrev pub refusals_after : Option CheckMade → ℕ → ℕ
refusals_after (Some made) count = after_call made.filed count
refusals_after None count = count
