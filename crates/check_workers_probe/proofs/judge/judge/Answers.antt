use Rattle.std.proofs.Common.{arith}
use Rattle.check_workers_probe.proofs.Responses.{other_status, too_long}
use Rattle.check_workers_probe.proofs.judge.judge.Goals as goal

pub returns-in_default : goal.returns-in_default
returns-in_default c =
    let read = rw c.in-Ok-Complete.field-0-is at c.in-Ok-Complete.ensures.complete in
    other_status _ _ _ read.0 read.1 (λ least greatest. omega (arith, greatest, c.if-head-lt400.false))

pub returns-in_default-2 : goal.returns-in_default-2
returns-in_default-2 c =
    let read = rw c.in-Ok-Complete.field-0-is at c.in-Ok-Complete.ensures.complete in
    other_status _ _ _ read.0 read.1 (λ least greatest. omega (arith, least, c.if-head-ge200.false))

pub returns-in_default-3 : goal.returns-in_default-3
returns-in_default-3 c =
    let none = rw c.in-Ok-Partial.field-0-is at c.in-Ok-Partial.ensures.partial in
    too_long _ none c.if-bytes-lt-MOST_BYTES.false
