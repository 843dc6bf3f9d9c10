use Rattle.std.proofs.Common.{◌≡◌, true, map, length}
use Rattle.std.specs.List.{list_any}
use Rattle.lb_acl.specs.Bytes.{is_equal, trimmed}
use Rattle.lb_acl.specs.Fields.{trimmed_parts}
use Rattle.http_relay_forward.proofs.options.has_part.Given as goal

-- the name is among the parts that are left if it is among all
abbrev pub invariant-loop-part : goal.invariant-loop-part
invariant-loop-part l = list_any (is_equal true l.name) (map trimmed l.parts) ≡ list_any (is_equal true l.name) (trimmed_parts 44 l.value)

abbrev pub decreases-loop-part : goal.decreases-loop-part
decreases-loop-part l = length l.parts
