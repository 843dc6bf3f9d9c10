use Rattle.pin_moves.proofs.Passing.{none_is_given, one_is_given, passes_join, order_is_free, others_are_left, next_is_left, whole_passes_agree}
use Rattle.pin_moves.proofs.passes.whole_passes_agree.Goals as goal

pub returns : goal.returns
returns c = record {
  none = none_is_given;
  one = one_is_given;
  joined = passes_join;
  order = order_is_free;
  others = others_are_left;
  next = next_is_left;
  whole = whole_passes_agree;
}
