-- Stick tables as contracts see them.
use Rattle.std.specs.Prelude.{ℕ, ◌≤◌, Bool, Option}
use Rattle.lb_types.specs.declared.limits.TheConstants.{MAX_PINS}
use Rattle.lb_acl.specs.declared.key.TableType.{TableType}
use Rattle.lb_config_parameters.specs.declared.table_draft.TableDue.{TableDue}

-- the type of the keys, how many pins there may be, after how many milliseconds a pin goes, and whether a full table keeps its pins
pub record StickTableView : Type 0 where
  pub kind : TableType
  pub size : ℕ
  pub expire : Option ℕ
  pub is_nopurge : Bool

-- the parameters as far as they were read, and what the next word may be
pub record TableDraftView : Type 0 where
  pub kind : Option TableType
  pub size : Option ℕ
  pub expire : Option ℕ
  pub is_nopurge : Bool
  pub due : TableDue

-- a lawful size
pub record IsTableSize (size : ℕ) : Type 0 where
  pub least : 1 ≤ size
  pub greatest : size ≤ MAX_PINS
