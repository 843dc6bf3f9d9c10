use Rattle.std.proofs.Common.{◌≡◌, length, map}
use Rattle.std.specs.List.{last_or}
use Rattle.std.specs.Option.{option_copied}
use Rattle.lb_acl.specs.Bytes.{trimmed}
use Rattle.lb_acl.specs.Fields.{trimmed_parts}
use Rattle.lb_acl.proofs.latest.last_element.Given as goal

abbrev pub invariant-loop-part : goal.invariant-loop-part
invariant-loop-part l =
    last_or (option_copied l.last) (map trimmed l.parts) ≡ last_or (option_copied l.fn.found) (trimmed_parts 44 l.fn.list)

abbrev pub decreases-loop-part : goal.decreases-loop-part
decreases-loop-part l = length l.parts
