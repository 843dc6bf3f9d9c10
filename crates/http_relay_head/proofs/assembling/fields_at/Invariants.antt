use Rattle.std.proofs.Common.{◌≡◌, map, take}
use Rattle.http_relay_head.specs.Scans.{field_at}
use Rattle.http_relay_head.proofs.assembling.fields_at.Given as goal

-- the fields so far
abbrev pub invariant-loop-header : goal.invariant-loop-header
invariant-loop-header l = l.fields.items ≡ map (field_at l.bytes) (take l.header-index l.headers)
