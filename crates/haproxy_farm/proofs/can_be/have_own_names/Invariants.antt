use Rattle.std.proofs.Common.{◌≡◌, ◌<◌, ◌^◌, true, take}
use Rattle.std.specs.Prelude.{◌≢◌, All, AllPairs}
use Rattle.lb_types.specs.Names.{is_name}
use Rattle.haproxy_farm.proofs.can_be.have_own_names.Given as goal

abbrev pub invariant-loop-i : goal.invariant-loop-i
invariant-loop-i l = record {
  own : AllPairs (λ a b. a.name ≢ b.name) (take l.i l.servers);
  named : All (λ s. is_name s.name ≡ true) (take l.i l.servers);
  room : All (λ s. s.capacity < 2 ^ 32) (take l.i l.servers);
}
