use Rattle.std.proofs.Common.{refl}
use Rattle.lb_desk_law.proofs.laws.worked_picks.Goals as goal

pub returns-clause-round : goal.returns-clause-round
returns-clause-round c = record { first = refl; second = refl; third = refl; again = refl }

pub returns-clause-changed_weights : goal.returns-clause-changed_weights
returns-clause-changed_weights c = record { behind = refl; around = refl; more = refl; none_left = refl; alone = refl }

pub returns-clause-least : goal.returns-clause-least
returns-clause-least c =
    record { tie = refl; fewer = refl; fewer_again = refl; tie_behind = refl; tie_around = refl; weighed = refl }

pub returns-clause-first : goal.returns-clause-first
returns-clause-first c = record { free = refl; full = refl; all_full = refl; none = refl }
