use Rattle.std.proofs.Common.{◌≡◌, length, None}
use Rattle.std.specs.List.{last_or, filter_map}
use Rattle.lb_types_text.specs.Parts.{parts}
use Rattle.set_cookie.specs.Lifetimes.{expiry}
use Rattle.set_cookie.proofs.lifetimes.last_expiry.Given as goal

abbrev pub invariant-loop-attribute : goal.invariant-loop-attribute
invariant-loop-attribute l = last_or l.found (filter_map expiry l.parts) ≡ last_or None (filter_map expiry (parts 59 l.fn.attributes))

abbrev pub decreases-loop-attribute : goal.decreases-loop-attribute
decreases-loop-attribute l = length l.parts
