use Rattle.std.proofs.Common.{◌≡◌, take}
use Rattle.server_state.specs.Farm.{set_of, main_servers}
use Rattle.server_state.proofs.Picked.{spare_among}
use Rattle.server_state.proofs.usable.usable_among.Given as goal

abbrev pub invariant-loop-i : goal.invariant-loop-i
invariant-loop-i l =
    (l.found.main ≡ set_of (main_servers (take l.i l.servers))) × (l.found.spare ≡ set_of (spare_among l.all_backups (take l.i l.servers)))
