use Rattle.std.proofs.Common.{◌<◌, ◌+◌, ◌^◌, ap, sym, subst, ◌∙◌, arith}
use Rattle.std.proofs.lemmas.List.{take_all}
use Rattle.pin_counts.specs.Counts.{HasMore}
use Rattle.pin_moves.specs.declared.a_move.Move.{Move}
use Rattle.pin_table.specs.Kinds.{same_kind, counted_of}
use Rattle.pin_table.specs.Placing.{kind_after, arriving}
use Rattle.pin_table.proofs.Arriving.{arriving_fits, counted_next}
use Rattle.pin_table.proofs.placing.counts_after.Goals as goal

pub add_many-requires-clause-some : goal.add_many-requires-clause-some
add_many-requires-clause-some c =
    let m = c.a_move-item.result in
    omega (arith, c.from.ensures, c.requires.some c.loop-a_move.a_move-index m c.loop-a_move-test.true, ap (λ (n : Move). n.count) c.a_move-item.is)

pub add_many-requires-clause-fits : goal.add_many-requires-clause-fits
add_many-requires-clause-fits c =
    let m = c.a_move-item.result in
    let counted = counted_of c.loop-a_move.counts (kind_after m) in
    subst (λ n. counted + n < 2 ^ 64) (sym c.from.ensures)
    (arriving_fits c.args.moves.now c.loop-a_move.a_move-index m counted c.loop-a_move-test.true c.a_move-item.is c.requires.few (c.loop-a_move.invariant (kind_after m)))

pub loop-a_move-preserved : goal.loop-a_move-preserved
loop-a_move-preserved c =
    let m = c.a_move-item.result in
    let more = subst (λ n. HasMore same_kind c.loop-a_move.counts (kind_after m) n c.add_many.new.self) c.from.ensures c.in_ok-add_many.ensures.ok in
    counted_next c.args.moves.now c.loop-a_move.a_move-index m c.loop-a_move.counts c.add_many.new.self c.loop-a_move-test.true c.a_move-item.is c.loop-a_move.invariant more

pub returns : goal.returns
returns c = λ kind.
    let moves = c.args.moves.now in
    let i = c.loop-a_move.a_move-index in
    c.loop-a_move.invariant kind ∙ ap (λ ms. arriving ms kind) (take_all i moves (omega arith))
