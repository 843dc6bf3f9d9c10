use Rattle.std.proofs.Common.{◌≡◌, ◌++◌, take}
use Rattle.std.specs.List.{filter, flat_map}
use Rattle.http_relay_forward.specs.Options.{is_kept}
use Rattle.http_relay_forward.specs.Forwarded.{field_line}
use Rattle.http_relay_forward.proofs.rewriting.push_kept_lines.Given as goal

-- the lines of the kept fields so far
abbrev pub invariant-loop-field : goal.invariant-loop-field
invariant-loop-field l =
    l.text.items ≡ l.fn.text.items ++ flat_map field_line (filter (is_kept l.fields) (take l.field-index l.fields))
