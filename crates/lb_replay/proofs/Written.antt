-- What a whole replay writes, however it ends.
use Rattle.std.proofs.Common.{◌≡◌, ℕ, Bool, false, Option, Some, None, IfSome, Result, Ok, Err, OnOk, IfOk, List, [], refl, sym, subst, ◌∙◌}
use Rattle.std.specs.Prelude.{codes}
use Rattle.std.specs.Io.KnownBytes.{Appends}
use Rattle.lb_types_counted.proofs.Writes.{Appends-nil}
use Rattle.lb_config_sections.specs.declared.cause.LocatedFault.{LocatedFault}
use Rattle.lb_config.specs.Configs.{config_in}
use Rattle.lb_config.specs.ConfigViews.{ConfigView}
use Rattle.lb_cli_faults.specs.Faults.{fault_line}
use Rattle.lb_script.specs.Backends.{only_place}
use Rattle.lb_replay.specs.Replays.{IsReplayOf, Output, ReplaysAt, ReplaysFor, Writes, no_farm}
use Rattle.lb_replay.specs.Steps.{ReplaysFarm, complaint, is_whole}

-- what holds of any value holds of the one there is
pub some_any : {A : Type 0} (o : Option A) (P : A → Type 0) → ((x : A) → P x) → IfSome o P
some_any None P all = tt
some_any (Some x) P all = all x

-- a call that succeeded tells two things
pub both_ok : {T E : Type 0} (r : Result T E) (P : Type 0) (Q R : T → Type 0) → (P → (x : T) → Q x → R x) → OnOk r P → IfOk r Q → IfOk r R
both_ok (Ok x) P Q R both p q = both p x q
both_ok (Err e) P Q R both p q = tt

-- the configuration has a fault
pub writes_fault : (config lines : List ℕ) (fault : LocatedFault) (told : Bool) (before after err : Option (List ℕ))
    → config_in config ≡ Err fault → Appends before after (fault_line fault) → told ≡ false
    → Writes (IsReplayOf config lines) told before after err err
writes_fault config lines fault told before after err read went whole =
    let output : Output = record { out = fault_line fault; err = []; is_whole = false } in
    record {
      output = output;
      is = subst (λ (r : Result ConfigView LocatedFault). ReplaysFor r lines output) (sym read) refl;
      whole = sym whole;
      out = went;
      err = Appends-nil err;
    }

-- none or several backends have servers
pub writes_no_farm : (config lines : List ℕ) (view : ConfigView) (told : Bool) (out before after : Option (List ℕ))
    → config_in config ≡ Ok view → only_place view.backends ≡ None → Appends before after (codes "replay needs one backend\n") → told ≡ false
    → Writes (IsReplayOf config lines) told out out before after
writes_no_farm config lines view told out before after read none went whole = record {
  output = no_farm;
  is =
      subst (λ (r : Result ConfigView LocatedFault). ReplaysFor r lines no_farm) (sym read)
      (subst (λ (p : Option ℕ). ReplaysAt p view lines no_farm) (sym none) refl);
  whole = sym whole;
  out = Appends-nil out;
  err = went;
}

-- the script was replayed
pub writes_replay : (config lines : List ℕ) (view : ConfigView) (place : ℕ) (bad : Option ℕ) (told : Bool) (out_before out_after before after : Option (List ℕ))
    → config_in config ≡ Ok view → only_place view.backends ≡ Some place → ReplaysFarm view place lines bad out_before out_after
    → Appends before after (complaint bad) → told ≡ is_whole bad
    → Writes (IsReplayOf config lines) told out_before out_after before after
writes_replay config lines view place bad told out_before out_after before after read only done went whole =
    let output = done.replays.output in
    record {
      output = output;
      is =
          subst (λ (r : Result ConfigView LocatedFault). ReplaysFor r lines output) (sym read)
          (subst (λ (p : Option ℕ). ReplaysAt p view lines output) (sym only) (done.farm, done.at, done.replays.is));
      whole = done.replays.whole ∙ sym whole;
      out = done.replays.out;
      err = subst (Appends before after) (sym done.replays.err) went;
    }
