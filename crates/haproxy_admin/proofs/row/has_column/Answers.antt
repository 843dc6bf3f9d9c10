use Rattle.std.proofs.Common.{sym, ◌∙◌}
use Rattle.haproxy_admin.proofs.Columns.{column_here}
use Rattle.haproxy_admin.proofs.row.has_column.Goals as goal

pub returns-then-is_same : goal.returns-then-is_same
returns-then-is_same c =
    let same = sym c.is_same.ensures ∙ c.if-is_same.true in
    sym (column_here c.args.name.now c.in-Some.column.now c.loop-column.names c.next_part.new.self c.in-Some.ensures.first same) ∙ c.loop-column.invariant
