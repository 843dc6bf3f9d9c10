use Rattle.std.proofs.Common.{◌≡◌, ◌∙◌, ◌++◌, ℕ, ◌+◌, List, [], ◌∷◌, Option, Some, None, ap, sym, arith}
use Rattle.std.proofs.lemmas.Grind.{common_steps}
use Rattle.std.proofs.lemmas.List.FromFn.{map-range_with_len_more}
use Rattle.lb_cli_tables.specs.Tables.{places}
use Rattle.lb_cli_tables.proofs.tables.places.Goals as goal

-- one server more
places-more : (all : List (Option ℕ)) (i : ℕ) → all ≡ places i → all ++ Some i ∷ [] ≡ places (i + 1)
places-more all i same =
    ap (λ l. l ++ Some i ∷ []) same ∙ ap (λ l. None ∷ l) (sym (map-range_with_len_more (λ server. Some server) 0 i i (omega arith)))

pub loop-index-preserved : goal.loop-index-preserved
loop-index-preserved c =
    let more = places-more c.loop-index.all.items c.loop-index.index c.loop-index.invariant in
    let made = c.new.ensures in
    grind (arith, common_steps)
