-- When two backends are equal: where each part of the one is that part of the other.
use Rattle.std.specs.Prelude.{Bool}
use Rattle.std.specs.Ordering.{on, eq_of_both}
use Rattle.std.specs.Option.{option_eq}
use Rattle.std.specs.Cmp.Lexicographic.{pointwise}
use Rattle.std.proofs.Math.Bool.{beq}
use Rattle.lb_types.specs.contracts.balance.BalancePartialEq.TheImpl as balance_eq
use Rattle.lb_types.specs.contracts.table_settings.TableSettingsPartialEq.TheImpl as table_eq
use Rattle.lb_desk_model.specs.contracts.backend.BackendServerPartialEq.TheImpl as server_eq
use Rattle.lb_desk_model.specs.Backends.{BackendParts}

-- servers, tables and ways to balance are equal where their fields are
abbrev pub equal_backends : BackendParts → BackendParts → Bool
equal_backends =
    eq_of_both (eq_of_both (eq_of_both (on (λ b. b.balance) (balance_eq.ghosts).eq) (on (λ b. b.all_backups) beq))
    (on (λ b. b.table) (option_eq (table_eq.ghosts).eq)))
    (on (λ b. b.servers) (pointwise (server_eq.ghosts).eq))
