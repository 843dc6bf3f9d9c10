use Rattle.std.proofs.Common.{◌≡◌, take, None}
use Rattle.std.specs.List.{last_or}
use Rattle.std.specs.Option.{option_copied}
use Rattle.lb_acl.specs.Cookies.{cookies_of}
use Rattle.lb_acl.proofs.latest.last_cookie.Given as goal

abbrev pub invariant-loop-field : goal.invariant-loop-field
invariant-loop-field l = option_copied l.found ≡ last_or None (cookies_of l.name (take l.field-index l.fields))
