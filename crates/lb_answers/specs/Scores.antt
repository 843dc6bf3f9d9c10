-- The score of a plan's moves, as answers say it.
use Rattle.std.specs.Prelude.{ℕ, ◌==◌, List, ◌++◌, codes, if◌then◌else◌}
use Rattle.pin_set.specs.declared.totals.Score.{Score}
use Rattle.lb_answers.specs.Names.{labelled}

abbrev pub score_words : Score → List ℕ
score_words score =
    labelled (codes "pins ") score.pins ++ labelled (codes " unplaced ") score.unplaced ++ labelled (codes " moved ") score.moved

-- the cost is told where it isn't the number of moved pins
unfoldable pub score_text : Score → List ℕ
score_text score = if score.cost == score.moved then score_words score else score_words score ++ labelled (codes " cost ") score.cost
