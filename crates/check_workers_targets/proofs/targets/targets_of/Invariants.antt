use Rattle.std.proofs.Common.{◌≡◌, map, take}
use Rattle.std.specs.Option.{option_map}
use Rattle.check_workers_targets.specs.Targets.{target_at, target_view}
use Rattle.check_workers_targets.proofs.targets.targets_of.Given as goal

-- the targets of the servers in front
abbrev pub invariant-loop-server : goal.invariant-loop-server
invariant-loop-server l = map (option_map target_view) l.targets.items ≡ map (target_at l.fn.backend.timeouts) (take l.server-index l.servers)
