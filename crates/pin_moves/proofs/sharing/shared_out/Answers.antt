use Rattle.std.proofs.Common.{◌≡◌, ◌<◌, List, [], length, get_or, take, drop, refl, sym, ap, ◌∙◌, arith}
use Rattle.std.specs.List.{sum_by}
use Rattle.std.proofs.lemmas.List.{drop_all, take_all, with_items_is}
use Rattle.dual_cert_plan.proofs.OwnSheet.{pins-groups_of}
use Rattle.dual_cert_plan.specs.Plans.{pins_in_rows}
use Rattle.pin_set.specs.declared.pin_count.PinCount.{PinCount}
use Rattle.pin_groups.specs.Counts.{counted_with}
use Rattle.pin_moves.proofs.Shared.{order_start, tally, to_come-next, whole-next, few_counted, still_behind, none_sent}
use Rattle.pin_moves.proofs.sharing.shared_out.Goals as goal

pub loop-counted-init : goal.loop-counted-init
loop-counted-init c =
    let rows = c.args.rows.now in
    let copied : c.in_ok-left.left.items ≡ rows = c.in_ok-left.ensures.items_if_clones_equal (λ x y same. same) in
    rw (copied, c.new-moves.ensures.items) (record {
      ordered = order_start rows c.requires.rising_rows c.requires.counted;
      left = λ kind. c.requires.groups kind ∙ pins-groups_of kind rows;
      sent = λ kind to. omega arith;
      whole = λ pins. refl;
      some = λ k d below. absurd (omega arith);
      rising = λ i j d below inside. absurd (omega arith);
      behind = λ k d below. absurd (omega arith);
    })

pub share-requires-clause-few : goal.share-requires-clause-few
share-requires-clause-few c =
    few_counted c.args.usable c.args.counts.now c.args.rows.now c.loop-counted.counted-index c.counted-item.result 16777216
    (omega arith) c.counted-item.is c.requires.groups c.requires.few

pub loop-counted-preserved : goal.loop-counted-preserved
loop-counted-preserved c =
    let usable = c.args.usable in
    let counts = c.args.counts.now in
    let i = c.loop-counted.counted-index in
    let counted = c.counted-item.result in
    let within : i < length counts = omega arith in
    let so_far = c.loop-counted.invariant in
    let done = rw c.deref_mut.ensures.value at c.in_ok-share.ensures in
    let back = with_items_is c.loop-counted.left c.share.new.left
    (omega (arith, c.share.auto.left, c.loop-counted.left.ok.0)) in
    rw back (record {
      ordered = done.ordered;
      left = λ kind. omega (arith, so_far.left kind, done.left kind, to_come-next usable counts i counted kind within c.counted-item.is);
      sent = λ kind to. omega (arith, so_far.sent kind to, done.sent kind to);
      whole = λ pins. omega (arith, so_far.whole pins, done.whole pins, whole-next counts i counted pins within c.counted-item.is);
      some = done.some;
      rising = done.rising;
      behind = λ k d below. still_behind counts i counted c.requires.rising within c.counted-item.is (get_or c.share.new.moves.items k d) (done.last k d below);
    })

pub returns-clause-whole : goal.returns-clause-whole
returns-clause-whole c = λ place want cost.
    let counts = c.args.counts.now in
    let i = c.loop-counted.counted-index in
    let all : take i counts ≡ counts = take_all i counts (omega arith) in
    c.loop-counted.invariant.whole (record { place = place; permitted = want; cost = cost })
    ∙ ap (λ (cs : List PinCount). counted_with cs place want cost) all

pub returns-clause-sent : goal.returns-clause-sent
returns-clause-sent c = λ kind to.
    let counts = c.args.counts.now in
    let i = c.loop-counted.counted-index in
    let none : drop i counts ≡ [] = drop_all i counts (omega arith) in
    let nothing : pins_in_rows kind c.loop-counted.left.items ≡ 0 =
    sym (c.loop-counted.invariant.left kind) ∙ ap (λ (cs : List PinCount). sum_by (tally c.args.usable kind) cs) none in
    omega (arith, c.loop-counted.invariant.sent kind to, none_sent c.loop-counted.left.items kind to nothing)
