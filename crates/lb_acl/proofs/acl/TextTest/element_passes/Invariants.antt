use Rattle.std.proofs.Common.{◌≡◌, length, map}
use Rattle.std.specs.List.{list_any}
use Rattle.lb_acl.specs.Acls.{value_passes}
use Rattle.lb_acl.specs.Bytes.{trimmed}
use Rattle.lb_acl.specs.Fields.{trimmed_parts}
use Rattle.lb_acl.proofs.acl.TextTest.element_passes.Given as goal

abbrev pub invariant-loop-part : goal.invariant-loop-part
invariant-loop-part l =
    list_any (value_passes l.self) (map trimmed l.parts) ≡ list_any (value_passes l.self) (trimmed_parts 44 l.fn.list)

abbrev pub decreases-loop-part : goal.decreases-loop-part
decreases-loop-part l = length l.parts
