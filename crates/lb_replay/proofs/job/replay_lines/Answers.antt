use Rattle.std.proofs.Common.{Some, None, option_map, refl, ap, sym, subst, ◌∙◌}
use Rattle.lb_replay_lines.specs.Lines.{lines_of}
use Rattle.lb_replay_lines.specs.Readings.{ReadingView}
use Rattle.lb_replay.specs.Steps.{ReadsPiece}
use Rattle.lb_replay.proofs.Going.{gone_bad, gone_more, gone_none, gone_whole, says_first}
use Rattle.lb_replay.proofs.job.replay_lines.Goals as goal

pub loop-init : goal.loop-init
loop-init g c =
    gone_none c.args.farm.now (option_map lines_of (g.S.Read.remaining c.args.script)) c.new-lines.result c.args.day.now c.args.out.now.contents
    (ap (λ (v : ReadingView). v.left) c.new-lines.ensures) (ap (λ (v : ReadingView). v.count) c.new-lines.ensures) c.requires.opening c.requires.stands

pub returns-in-End : goal.returns-in-End
returns-in-End g c =
    let read = subst (ReadsPiece c.args.farm.now c.loop.lines c.read_piece.new.lines) c.in-End.is c.in_ok-said.ensures in
    gone_whole c.args.farm.now (g.S.Read.remaining c.args.script) c.loop.lines c.loop.day c.args.out.now.contents c.loop.out.contents c.loop.invariant read

pub returns-in-Bad : goal.returns-in-Bad
returns-in-Bad g c =
    let read = subst (ReadsPiece c.args.farm.now c.loop.lines c.read_piece.new.lines) c.in-Bad.is c.in_ok-said.ensures in
    gone_bad c.args.farm.now (g.S.Read.remaining c.args.script) c.loop.lines c.loop.day c.args.out.now.contents c.loop.out.contents None c.number.result
    c.loop.invariant read.0 refl (c.number.ensures ∙ read.1)

pub returns-then-is_bad : goal.returns-then-is_bad
returns-then-is_bad g c =
    let read = subst (ReadsPiece c.args.farm.now c.loop.lines c.read_piece.new.lines) c.in-Said.is c.in_ok-said.ensures in
    gone_bad c.args.farm.now (g.S.Read.remaining c.args.script) c.loop.lines c.loop.day c.args.out.now.contents c.loop.out.contents (Some c.in-Said.said) c.number-then-is_bad.result
    c.loop.invariant (says_first c.args.farm.now c.loop.lines.left c.loop.lines c.in-Said.said c.read_piece.new.lines read.0) (sym c.is_bad.ensures ∙ c.if-is_bad.true) (c.number-then-is_bad.ensures ∙ read.1)

pub loop-preserved : goal.loop-preserved
loop-preserved g c =
    let read = subst (ReadsPiece c.args.farm.now c.loop.lines c.read_piece.new.lines) c.in-Said.is c.in_ok-said.ensures in
    let did = rw c.piece.ensures at c.in_ok-answer.ensures in
    gone_more c.args.farm.now (option_map lines_of (g.S.Read.remaining c.args.script)) c.loop.lines c.read_piece.new.lines c.loop.day c.answer.new.day
    c.args.out.now.contents c.loop.out.contents c.answer.new.out.contents c.in-Said.said c.loop.invariant read.0 did
