use Rattle.std.proofs.Common.{◌≡◌, drop}
use Rattle.std.specs.Option.{option_map}
use Rattle.server_state.specs.Farm.{set_of}
use Rattle.pin_file_return.specs.Returns.{places_of}
use Rattle.pin_file_return.proofs.WantedSets.{set_behind}
use Rattle.pin_file_return.proofs.coming_back.wanted_set.Given as goal

-- the servers so far and those that the other names are make the set of all of them
abbrev pub invariant-loop-name : goal.invariant-loop-name
invariant-loop-name l = set_behind l.set (places_of l.servers (drop l.name-index l.names)) ≡ option_map set_of (places_of l.servers l.names)
