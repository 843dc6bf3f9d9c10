-- The desks of a configuration's backends at their opening, and what their common name says of them. Our own words.
use Rattle.std.specs.Prelude.{◌≡◌, ℕ, ◌+◌, List, [], ◌∷◌, ◌++◌, length, Option, Some, None, slice_get}
use Rattle.atomic_table.specs.Seated.{TableId}
use Rattle.lb_config.specs.ConfigViews.{BackendView}
use Rattle.lb_desk_backend.specs.Configured.{IsBackendOf}
use Rattle.lb_desk_model.specs.Backends.{BackendParts, no_backend}
use Rattle.lb_desk_tie.specs.Rule.{no_table}
use Rattle.lb_run_desks.specs.NewDeskView.{NewDeskView}

-- the desk opened with the backend that is configured, and with a journal of the size that the configuration says
abbrev pub OpensAs : BackendView → NewDeskView → Type 0
OpensAs config desk = IsBackendOf config desk.backend × (desk.journal ≡ config.journal)

-- each of the backends has one desk, which opened as it is configured, in their order
abbrev pub Open : List BackendView → List NewDeskView → Type 0
Open [] [] = Unit {0}
Open (config ∷ configs) (desk ∷ desks) = OpensAs config desk × Open configs desks
Open [] (desk ∷ desks) = ⊥
Open (config ∷ configs) [] = ⊥

-- the name says of each place which table, which backend and which size of its journal the desk has that stands there
abbrev pub AreNamed : (ℕ → TableId) → (ℕ → BackendParts) → (ℕ → ℕ) → List NewDeskView → Type 0
AreNamed tables backends sizes desks =
    (place : ℕ) (desk : NewDeskView) → slice_get desks place ≡ Some desk
    → (desk.table ≡ tables place) × (desk.backend ≡ backends place) × (desk.journal ≡ sizes place)

-- what such a name says of a place
abbrev pub table_at : Option NewDeskView → TableId
table_at None = no_table
table_at (Some desk) = desk.table

abbrev pub backend_at : Option NewDeskView → BackendParts
backend_at None = no_backend
backend_at (Some desk) = desk.backend

abbrev pub journal_size_at : Option NewDeskView → ℕ
journal_size_at None = 0
journal_size_at (Some desk) = desk.journal

-- the places of a list's elements: 0, 1 and so on
abbrev pub numbers_from : ℕ → List NewDeskView → List ℕ
numbers_from n [] = []
numbers_from n (desk ∷ desks) = n ∷ numbers_from (n + 1) desks

abbrev pub numbers : List NewDeskView → List ℕ
numbers desks = numbers_from 0 desks
