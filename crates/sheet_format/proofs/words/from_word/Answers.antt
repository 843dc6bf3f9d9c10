use Rattle.std.proofs.Common.{sym}
use Rattle.sheet_format.proofs.Blanks.{begin_found, begin_none}
use Rattle.sheet_format.proofs.words.from_word.Goals as goal

pub returns-in_err-begin-clause-none : goal.returns-in_err-begin-clause-none
returns-in_err-begin-clause-none c =
    rw c.from_residual.ensures (begin_none c.args.bytes.now (sym c.in_err-begin.ensures))

pub returns-clause-same : goal.returns-clause-same
returns-clause-same c =
    let found = begin_found c.args.bytes.now c.in_ok-begin.begin (sym c.in_ok-begin.ensures) in
    let same = found.0 in
    cc

pub returns-clause-some : goal.returns-clause-some
returns-clause-some c =
    let found = begin_found c.args.bytes.now c.in_ok-begin.begin (sym c.in_ok-begin.ensures) in
    rw c.split_at.ensures.back found.1

pub returns-clause-begins : goal.returns-clause-begins
returns-clause-begins c =
    let found = begin_found c.args.bytes.now c.in_ok-begin.begin (sym c.in_ok-begin.ensures) in
    rw c.split_at.ensures.back found.2
