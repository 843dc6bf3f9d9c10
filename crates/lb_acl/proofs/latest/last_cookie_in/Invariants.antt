use Rattle.std.proofs.Common.{◌≡◌, length, map}
use Rattle.std.specs.List.{last_or, filter_map}
use Rattle.std.specs.Option.{option_copied}
use Rattle.lb_acl.specs.Bytes.{trimmed}
use Rattle.lb_acl.specs.Cookies.{cookie_value, cookies_in}
use Rattle.lb_acl.proofs.latest.last_cookie_in.Given as goal

abbrev pub invariant-loop-part : goal.invariant-loop-part
invariant-loop-part l =
    last_or (option_copied l.last) (filter_map (cookie_value l.name) (map trimmed l.parts)) ≡ last_or (option_copied l.fn.found) (cookies_in l.fn.name l.fn.value)

abbrev pub decreases-loop-part : goal.decreases-loop-part
decreases-loop-part l = length l.parts
