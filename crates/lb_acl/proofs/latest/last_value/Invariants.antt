use Rattle.std.proofs.Common.{◌≡◌, take, None}
use Rattle.std.specs.List.{last_or}
use Rattle.std.specs.Option.{option_copied}
use Rattle.lb_acl.specs.Fields.{values_of}
use Rattle.lb_acl.proofs.latest.last_value.Given as goal

abbrev pub invariant-loop-field : goal.invariant-loop-field
invariant-loop-field l = option_copied l.found ≡ last_or None (values_of l.name (take l.field-index l.fields))
