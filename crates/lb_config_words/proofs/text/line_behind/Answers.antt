use Rattle.std.proofs.Common.{◌==◌, ap, arith}
use Rattle.std.specs.Prelude.{length}
use Rattle.std.proofs.lemmas.List.Splits.{length-slice_split}
use Rattle.std.proofs.lemmas.List.Sums.{count_by-le-length}
use Rattle.lb_config_words.proofs.text.line_behind.Goals as goal

pub loop-parts-init : goal.loop-parts-init
loop-parts-init c =
    let ends = length-slice_split (λ b. b == 10) c.args.front.now in
    let few = count_by-le-length (λ b. b == 10) c.args.front.now in
    let all = ap (λ parts. length parts) c.new-parts.ensures in
    (omega (arith, all), omega (arith, all, ends, few, c.requires))
