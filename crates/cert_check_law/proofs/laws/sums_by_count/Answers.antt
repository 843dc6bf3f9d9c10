use Rattle.cert_check_law.proofs.Agreeing.{sum_by-groups, sum_by-rows}
use Rattle.cert_check_law.proofs.laws.sums_by_count.Goals as goal

pub returns-clause-groups : goal.returns-clause-groups
returns-clause-groups c = sum_by-groups

pub returns-clause-rows : goal.returns-clause-rows
returns-clause-rows c = sum_by-rows
