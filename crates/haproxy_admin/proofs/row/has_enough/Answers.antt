use Rattle.std.proofs.Common.{sym, ◌∙◌}
use Rattle.haproxy_admin.proofs.Columns.{enough_later, too_few}
use Rattle.haproxy_admin.proofs.row.has_enough.Goals as goal

pub returns-in_default-next_part : goal.returns-in_default-next_part
returns-in_default-next_part c =
    sym (too_few _ c.loop-column.names c.loop-column.words c.next_part.new.self c.in-Some.ensures.first c.in_default-next_part.ensures.none.0) ∙ c.loop-column.invariant

pub loop-column-preserved : goal.loop-column-preserved
loop-column-preserved c =
    sym (enough_later _ _ c.loop-column.names c.loop-column.words c.next_part.new.self c.next_part-in-Some.new.self c.in-Some.ensures.first c.in-Some-next_part.ensures.first) ∙ c.loop-column.invariant
