-- What a check's result does: it counts for a checked server that isn't in maintenance.
use Rattle.std.specs.Prelude.{◌≡◌, ℕ, Bool, true, false, List, [], ◌∷◌, ◌++◌, Option, Some, None, Result, Ok, OnErr, slice_get, is_none, is_some, if◌then◌else◌}
use Rattle.std.specs.Option.{option_map_or}
use Rattle.std.specs.Result.{result_err}
use Rattle.rise_fall.specs.Health.{Base, is_up, flip_between, tally_after}
use Rattle.server_state.specs.Server.{ServerView, is_maint}
use Rattle.server_state.specs.Farm.{FarmView}
use Rattle.server_state.specs.Changes.{with_server_as}
use Rattle.server_state.specs.declared.change.ChangeFault.{ChangeFault}
use Rattle.server_state.specs.declared.change.ChangeFault.TheVariants.{NoSuchServer, NotChecked}
use Rattle.server_state.specs.declared.checked.Checked.{Checked}
use Rattle.server_state.specs.declared.checked.Checked.TheVariants.{Took, Ignored}

-- why this server refuses a result, if it does
abbrev pub check_fault_at : ServerView → Option ChangeFault
check_fault_at server = if is_none server.health then Some NotChecked else None

-- why the result is refused, if it is
abbrev pub check_fault : FarmView → ℕ → Option ChangeFault
check_fault farm server = option_map_or check_fault_at (slice_get farm.servers server) (Some NoSuchServer)

-- the server after one result more, where its health stands for these results
abbrev pub with_result : ServerView → ℕ → ℕ → Base → List Bool → Bool → ServerView
with_result server rise fall base results ok = record server { health = Some (tally_after rise fall base (results ++ ok ∷ [])) }

-- what one result more changes
abbrev pub flip_of : ℕ → ℕ → Base → List Bool → Bool → Checked
flip_of rise fall base results ok =
    Took (flip_between (is_up rise fall base results) (is_up rise fall base (results ++ ok ∷ [])))

-- a result at one server is refused exactly where there is a fault; else it is ignored in maintenance, and elsewhere
-- added to the results that the server's health stands for
pub record TakesResult (old new : ServerView) (result : Result Checked ChangeFault) (ok : Bool) : Type 0 where
  pub fault : result_err result ≡ check_fault_at old
  pub ignored : is_maint old.admin ≡ true → is_some old.health ≡ true → (result ≡ Ok Ignored) × (new ≡ old)
  pub taken : (rise fall : ℕ) (base : Base) (results : List Bool)
      → is_maint old.admin ≡ false → old.health ≡ Some (tally_after rise fall base results)
      → (result ≡ Ok (flip_of rise fall base results ok)) × (new ≡ with_result old rise fall base results ok)
  pub err : OnErr result (new ≡ old)

-- a result is refused exactly where it has a fault, and then changes nothing; the server that it is for takes it, and
-- the others stay
pub record Checks (old new : FarmView) (result : Result Checked ChangeFault) (server : ℕ) (ok : Bool) : Type 0 where
  pub fault : result_err result ≡ check_fault old server
  pub found : (before : ServerView) → slice_get old.servers server ≡ Some before
      → (after : ServerView) × TakesResult before after result ok × (new ≡ with_server_as old server after)
  pub err : OnErr result (new ≡ old)
