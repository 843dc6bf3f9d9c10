use Rattle.std.proofs.Common.{◌≡◌, ◌+◌, ◌-◌, take, drop, sym, ap, ◌∙◌, arith, length-drop}
use Rattle.std.proofs.lemmas.List.{drop-take}
use Rattle.std.proofs.lemmas.List.Edits.{take-paste}
use Rattle.std.proofs.Math.Seq.{paste}
use Rattle.http_relay_body.proofs.chunks.room.shift.Goals as goal

pub returns-then-from-eq0-clause-front : goal.returns-then-from-eq0-clause-front
returns-then-from-eq0-clause-front c =
    let all = c.args.bytes.now in
    let count : c.args.filled - c.args.from ≡ c.args.filled = omega (arith, c.if-from-eq0.true) in
    ap (λ n. take n all) count ∙ ap (λ n. drop n (take c.args.filled all)) (sym c.if-from-eq0.true)

pub returns-clause-front : goal.returns-clause-front
returns-clause-front c =
    let all = c.args.bytes.now in
    let from = c.args.from in
    let count = c.args.filled - c.args.from in
    let size : count ≡ 0 + count = omega arith in
    let whole : from + count ≡ c.args.filled = omega (arith, c.requires.within.0) in
    ap (take count) c.copy_within.ensures.after ∙ ap (λ k. take k (paste all 0 (drop from all) count)) size
    ∙ take-paste all 0 (drop from all) count (omega arith) (omega (arith, c.requires.within, length-drop from all))
    ∙ sym (drop-take from count all) ∙ ap (λ k. drop from (take k all)) whole
