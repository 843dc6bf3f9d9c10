use Rattle.std.proofs.Common.{◌≡◌, length, refl, arith}
use Rattle.std.proofs.lemmas.List.{take_all}
use Rattle.lb_types.specs.NameFields.{padded}
use Rattle.lb_types.proofs.name.padded.Goals as goal

pub returns : goal.returns
unfolding padded
returns c =
    let bytes = c.args.bytes.now in
    let i-is : c.loop-i.i ≡ length bytes = omega arith in
    rw (c.loop-i.invariant, i-is, take_all (length bytes) bytes (omega arith)) refl
