use Rattle.std.proofs.Common.{◌≡◌, None, drop}
use Rattle.std.specs.Option.{option_copied, option_map}
use Rattle.lb_config_values.specs.Values.{check_line_in, last_said, request_line_of}
use Rattle.lb_config_values.proofs.http_check.last_http_check.Given as goal

abbrev pub invariant-loop-numbered : goal.invariant-loop-numbered
invariant-loop-numbered l =
    last_said (option_map request_line_of (option_copied l.found)) check_line_in (drop l.numbered-index l.settings)
    ≡ last_said None check_line_in l.settings
