use Rattle.std.proofs.Common.{◌≡◌, ℕ, Option, None, List, [], sym, ap, subst, ◌∙◌, map}
use Rattle.server_state.specs.Farm.{FarmView}
use Rattle.lb_types.specs.declared.table_settings.TableSettings.{TableSettings}
use Rattle.lb_types.specs.declared.balance.Balance.{Balance}
use Rattle.lb_desk_model.specs.Seen.{Seen}
use Rattle.lb_desk_model.specs.States.{opening}
use Rattle.lb_desk_core.specs.Core.{IsReached}
use Rattle.lb_desk_core.proofs.Reached.{configured_name, name_at, names_started, reached_opening}
use Rattle.lb_desk_core.proofs.backend_core.Core.open.Goals as goal

abbrev parts : Balance → Option TableSettings → List (List ℕ) → FarmView → List ℕ → ℕ → Seen
parts balance settings names farm connections latest = record {
  balance = balance;
  table = settings;
  names = names;
  farm = farm;
  connections = connections;
  pins = [];
  cursor = None;
  latest = latest;
  version = 0;
}

pub returns-clause-shown : goal.returns-clause-shown
returns-clause-shown g c =
    let backend = c.args.backend.now in
    let names : c.in_ok-names.names.items ≡ map name_at (opening backend).servers =
    c.in_ok-names.ensures ∙ (ap (map configured_name) c.servers.ensures.exact ∙ names_started backend.servers) in
    rw c.new-table.ensures
    (λ i. parts (c.balance.ensures i) (c.table-settings.ensures i) (names i) (c.in_ok-farm.ensures.farm i) (c.in_ok-farm.ensures.connections i) (c.from_millis.ensures i))

pub invariant_of-result : goal.invariant_of-result
invariant_of-result g c = subst (λ (s : Seen). IsReached s) (sym (returns-clause-shown g c)) (reached_opening c.args.backend.now c.servers.ensures.lawful)
