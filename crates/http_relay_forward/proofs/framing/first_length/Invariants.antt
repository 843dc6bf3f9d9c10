use Rattle.std.proofs.Common.{◌≡◌, drop}
use Rattle.std.specs.List.{find}
use Rattle.http_relay_forward.specs.Framing.{is_length_field}
use Rattle.http_relay_forward.proofs.framing.first_length.Given as goal

-- what is sought is behind the fields that were looked at
abbrev pub invariant-loop-field : goal.invariant-loop-field
invariant-loop-field l = find is_length_field (drop l.field-index l.fields) ≡ find is_length_field l.fields
