-- The desks of backends, as one who carries out commands sees them.
use Rattle.std.specs.Prelude.{◌≡◌, ℕ, List, Some, map, slice_get, slice_set}
use Rattle.lb_desk_model.specs.declared.entry.Entry.{Entry}
use Rattle.lb_desk_model.specs.Backends.{OpenedBackend}
use Rattle.lb_desk_steer.specs.Steering.{KeepsSights}

pub record DeskSeen : Type 0 where
  -- the events that were made, each with its reply
  pub entries : List Entry
  -- how often it was asked to plan while everyone else waits
  pub planned_now : ℕ
  -- the backend, as it opened
  pub backend : OpenedBackend
  -- its history at each moment of which a copy was made, or at which a call was refused
  pub sights : List (List Entry)

abbrev pub desk_seen : {D : Type 0} → (D → List Entry) → (D → ℕ) → (D → OpenedBackend) → (D → List (List Entry)) → D → DeskSeen
desk_seen entries planned_now backend sights desk = record {
  entries = entries desk;
  planned_now = planned_now desk;
  backend = backend desk;
  sights = sights desk;
}

-- the desk was at most looked at
pub record LooksAt (old new : DeskSeen) : Type 0 where
  pub entries : new.entries ≡ old.entries
  pub planned_now : new.planned_now ≡ old.planned_now
  pub backend : new.backend ≡ old.backend
  pub sights : KeepsSights old.sights new.sights

-- the backends that they are at, in their order
abbrev pub backends_at : {D : Type 0} → (D → DeskSeen) → List D → List OpenedBackend
backends_at seen desks = map (λ desk. (seen desk).backend) desks

-- this was done at the desk of the backend at the place, and nothing at any other one
pub record AtDesk {D : Type 0} (seen : D → DeskSeen) (place : ℕ) (desks used : List D) (Is : DeskSeen → DeskSeen → Type 0) : Type 0 where
  pub old : D
  pub new : D
  pub there : slice_get desks place ≡ Some old
  pub others : used ≡ slice_set desks place new
  pub is : Is (seen old) (seen new)
