-- What a run of the balancer leaves of each backend's desk, and what it writes at its end. Our own words.
use Rattle.std.specs.Prelude.{◌≡◌, ℕ, List, [], ◌∷◌, ◌++◌, Option}
use Rattle.std.specs.Io.KnownBytes.{Appends}
use Rattle.lb_config.specs.ConfigViews.{BackendView}
use Rattle.lb_desk_backend.specs.Configured.{IsBackendOf}
use Rattle.lb_desk_model.specs.declared.entry.Entry.{Entry}
use Rattle.lb_desk_model.specs.Backends.{BackendParts, OpenedBackend, opened_backend}
use Rattle.lb_desk_shared.specs.Closing.{Closes}
use Rattle.lb_desk_shared.specs.declared.closing.Closing.{Closing}
use Rattle.lb_desk_tie.specs.Receipts.{PassView}
use Rattle.lb_run_desks.specs.Closed.{closed_line}

-- The desk of this backend opened as the backend that is configured, and it was closed with passes whose receipts share out its one
-- history. Its journal has as many of the newest entries of that as the configuration allows, and the line says so
pub record ClosedAs (config : BackendView) (line : List ℕ) : Type 0 where
  pub backend : BackendParts
  pub configured : IsBackendOf config backend
  pub passes : List (PassView Entry)
  pub closing : Closing
  pub closes : Closes backend passes closing
  pub size : closing.journal.capacity ≡ config.journal
  pub says : line ≡ closed_line config.name closing

-- the lines of all these backends, in their order
abbrev pub AllClosed : List BackendView → List ℕ → Type 0
AllClosed [] text = text ≡ []
AllClosed (config ∷ configs) text = (line others : List ℕ) × ClosedAs config line × AllClosed configs others × (text ≡ line ++ others)

-- all of them were closed, and these lines went out
abbrev pub EndsClosed : List BackendView → Option (List ℕ) → Option (List ℕ) → Type 0
EndsClosed configs old new = (text : List ℕ) × AllClosed configs text × Appends old new text

-- the desk of this number, as it opened
abbrev pub opened_as : (ℕ → BackendParts) → (ℕ → ℕ) → ℕ → OpenedBackend
opened_as opening sizes desk = opened_backend desk (opening desk) (sizes desk)

-- the desk opened as the backend that is configured, with a journal of the size that is configured
abbrev pub IsOpened : (ℕ → BackendParts) → (ℕ → ℕ) → BackendView → ℕ → Type 0
IsOpened opening sizes config desk = IsBackendOf config (opening desk) × (sizes desk ≡ config.journal)

-- each of these desks opened as is configured at its place
abbrev pub AreOpened : (ℕ → BackendParts) → (ℕ → ℕ) → List BackendView → List ℕ → Type 0
AreOpened opening sizes [] [] = Unit {0}
AreOpened opening sizes (config ∷ configs) (desk ∷ desks) = IsOpened opening sizes config desk × AreOpened opening sizes configs desks
AreOpened opening sizes [] (desk ∷ desks) = ⊥
AreOpened opening sizes (config ∷ configs) [] = ⊥
