-- One server of a farm in another state.
use Rattle.std.proofs.Common.{◌≡◌, ℕ, ◌<◌, Bool, List, length, get_or, refl, ap, ◌∙◌, Some, Result, Ok, Err}
use Rattle.std.specs.Prelude.{OnOk, OnErr, slice_get, slice_set}
use Rattle.std.specs.Result.{result_err}
use Rattle.std.proofs.lemmas.Option.{slice_get_read}
use Rattle.std.proofs.lemmas.List.{set-get_or}
use Rattle.server_state.specs.Server.{ServerView}
use Rattle.server_state.specs.Farm.{FarmView}
use Rattle.server_state.specs.Changes.{fault_at, with_setting, Sets}
use Rattle.server_state.specs.Checks.{TakesResult, Checks}
use Rattle.server_state.specs.declared.change.ChangeFault.{ChangeFault}
use Rattle.server_state.specs.declared.checked.Checked.{Checked}
use Rattle.server_state.specs.declared.change.Setting.{Setting}

-- the element that was read is in the list
found-at : (xs : List ServerView) (i : ℕ) (found : ServerView) → i < length xs → found ≡ get_or xs i found → slice_get xs i ≡ Some found
found-at xs i found h read = slice_get_read xs (length xs) i found refl h read

-- what was read and written back changes nothing
unchanged : (xs : List ServerView) (i : ℕ) (found new : ServerView) → found ≡ get_or xs i found → new ≡ found → slice_set xs i new ≡ xs
unchanged xs i found new read same = ap (slice_set xs i) (same ∙ read) ∙ set-get_or xs i found

abbrev farm_of : List ServerView → Bool → FarmView
farm_of xs all_backups = record { servers = xs; all_backups = all_backups }

pub Sets-at : (xs : List ServerView) (all_backups : Bool) (i server : ℕ) (found new : ServerView) (result : Result (Unit {0}) ChangeFault) (setting : Setting) → i ≡ server → i < length xs → found ≡ get_or xs i found → result_err result ≡ fault_at found setting → OnOk result (new ≡ with_setting found setting) → OnErr result (new ≡ found) → Sets (farm_of xs all_backups) (farm_of (slice_set xs i new) all_backups) result server setting
Sets-at xs all_backups i server found new (Ok u) setting same h read fault ok err = let at = found-at xs i found h read in rw (← same) (record {
  fault = rw at fault;
  ok = rw at (ap (λ s. farm_of (slice_set xs i s) all_backups) ok);
  err = err;
})
Sets-at xs all_backups i server found new (Err e) setting same h read fault ok err = let at = found-at xs i found h read in rw (← same) (record {
  fault = rw at fault;
  ok = ok;
  err = ap (λ l. farm_of l all_backups) (unchanged xs i found new read err);
})

Checks-err : (xs : List ServerView) (all_backups : Bool) (i : ℕ) (found new : ServerView) (result : Result Checked ChangeFault) → found ≡ get_or xs i found → OnErr result (new ≡ found) → OnErr result (farm_of (slice_set xs i new) all_backups ≡ farm_of xs all_backups)
Checks-err xs all_backups i found new (Ok u) read err = err
Checks-err xs all_backups i found new (Err e) read err = ap (λ l. farm_of l all_backups) (unchanged xs i found new read err)

pub Checks-at : (xs : List ServerView) (all_backups : Bool) (i server : ℕ) (found new : ServerView) (result : Result Checked ChangeFault) (ok : Bool) → i ≡ server → i < length xs → found ≡ get_or xs i found → TakesResult found new result ok → Checks (farm_of xs all_backups) (farm_of (slice_set xs i new) all_backups) result server ok
Checks-at xs all_backups i server found new result ok same h read takes =
    let at = found-at xs i found h read in
    rw (← same) (record {
      fault = rw at takes.fault;
      found = λ before there.
          let one : found ≡ before = cc in
          (new, rw one at takes, refl);
      err = Checks-err xs all_backups i found new result read takes.err;
    })
