use Rattle.std.proofs.Common.{arith}
use Rattle.std.proofs.lemmas.Result.{err_from_is_err_and}
use Rattle.lb_types_text.specs.Parts.{parts}
use Rattle.haproxy_admin.specs.Servers.{row_said}
use Rattle.haproxy_admin.proofs.Lines.{after_nothing, line_failed, line_read, lines_read}
use Rattle.haproxy_admin.proofs.servers.read_rows.Goals as goal

pub loop-line-init : goal.loop-line-init
loop-line-init c = (rw c.new-servers.ensures.items (after_nothing _), omega (arith, c.requires))

pub returns-in_err-add_row : goal.returns-in_err-add_row
returns-in_err-add_row c =
    let now = rw c.in-Some.ensures.first at c.loop-line.invariant.0 in
    let p = err_from_is_err_and c.from_residual.result c.from_residual.ensures.1 in
    rw (p.1, p.2)
    (line_failed (row_said c.args.backend.now (parts 32 c.args.columns.now)) _ c.loop-line.number c.loop-line.servers.items c.in-Some.line.now c.next_part.new.self _ c.in_err-add_row.ensures now)

pub loop-line-preserved : goal.loop-line-preserved
loop-line-preserved c =
    let now = rw c.in-Some.ensures.first at c.loop-line.invariant.0 in
    let less = rw c.in-Some.ensures.first at c.loop-line.invariant.1 in (
      line_read (row_said c.args.backend.now (parts 32 c.args.columns.now)) c.loop-line.number c.loop-line.servers.items c.add_row.new.servers.items c.in-Some.line.now c.next_part.new.self _
          c.in_ok-add_row.ensures now,
      omega (arith, less),
    )

pub returns : goal.returns
returns c =
    let now = rw c.in_default.ensures.none.0 at c.loop-line.invariant.0 in
    lines_read (row_said c.args.backend.now (parts 32 c.args.columns.now)) c.loop-line.number c.loop-line.servers.items _ now
