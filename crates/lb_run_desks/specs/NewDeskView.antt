-- A desk at its opening as it is seen. Our own words.
use Rattle.atomic_table.specs.Seated.{TableId}
use Rattle.lb_desk_model.specs.Backends.{BackendParts}
use Rattle.std.specs.Prelude.{ℕ}

pub record NewDeskView : Type 0 where
  -- the table of its receipts
  pub table : TableId
  -- the backend that it opened with
  pub backend : BackendParts
  -- how many entries its journal keeps at most
  pub journal : ℕ
