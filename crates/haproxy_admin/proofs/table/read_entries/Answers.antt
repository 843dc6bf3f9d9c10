use Rattle.std.proofs.Common.{arith}
use Rattle.std.proofs.lemmas.Result.{err_from_is_err_and}
use Rattle.haproxy_admin.specs.Tables.{entry_said}
use Rattle.haproxy_admin.proofs.Lines.{after_nothing, few_parts, line_failed, line_read, lines_read}
use Rattle.haproxy_admin.proofs.table.read_entries.Goals as goal

pub loop-line-init : goal.loop-line-init
loop-line-init c =
    (rw (c.new-entries.ensures.items, c.new-lines.ensures) (after_nothing _), rw c.new-lines.ensures (let few = few_parts 10 c.args.text.now in omega (arith, few)))

pub returns-in_err-add_line : goal.returns-in_err-add_line
returns-in_err-add_line c =
    let now = rw c.in-Some.ensures.first at c.loop-line.invariant.0 in
    let p = err_from_is_err_and c.from_residual.result c.from_residual.ensures.1 in
    rw (p.1, p.2) (line_failed entry_said _ c.loop-line.number c.loop-line.entries.items c.in-Some.line.now c.next_part.new.self _ c.in_err-add_line.ensures now)

pub loop-line-preserved : goal.loop-line-preserved
loop-line-preserved c =
    let now = rw c.in-Some.ensures.first at c.loop-line.invariant.0 in
    let less = rw c.in-Some.ensures.first at c.loop-line.invariant.1 in (
      line_read entry_said c.loop-line.number c.loop-line.entries.items c.add_line.new.entries.items c.in-Some.line.now c.next_part.new.self _ c.in_ok-add_line.ensures now,
      omega (arith, less),
    )

pub returns : goal.returns
returns c =
    let now = rw c.in_default.ensures.none.0 at c.loop-line.invariant.0 in
    lines_read entry_said c.loop-line.number c.loop-line.entries.items _ now
