use Rattle.std.proofs.Common.{◌≡◌, true, false, sym, ◌∙◌}
use Rattle.std.specs.List.{list_all}
use Rattle.lb_types.specs.Names.{is_dash}
use Rattle.lb_answers.specs.Keys.{is_plain, escaped, text_word}
use Rattle.lb_answers.proofs.Pieces.{Sends-at}
use Rattle.lb_answers.proofs.PlainKeys.{plain-flat_map}
use Rattle.lb_answers.proofs.keys.send_text.Goals as goal

pub returns-then-all_plain : goal.returns-then-all_plain
unfolding text_word
returns-then-all_plain g c =
    let plain : list_all (λ byte. is_plain byte) c.args.bytes.now ≡ true = sym c.all_plain.ensures ∙ c.if-all_plain.true in
    let other : is_dash c.args.bytes.now ≡ false = sym (rw c.as_slice.ensures at c.if-eq.ensures) in
    rw (plain-flat_map c.args.bytes.now plain, other) c.send-then-all_plain.ensures

pub loop-byte-preserved : goal.loop-byte-preserved
loop-byte-preserved g c =
    Sends-at _ _ _ _ _ _ (λ byte. escaped byte) c.args.bytes.now c.loop-byte.byte-index 0 c.loop-byte-test.true c.loop-byte.invariant c.send_escaped-sent.ensures
