use Rattle.std.proofs.Common.{option_map, subst, arith}
use Rattle.lb_replay_lines.specs.Lines.{lines_of}
use Rattle.lb_replay_lines.specs.Readings.{ReadingView, AddsLine, AtEnd}
use Rattle.lb_replay_lines.proofs.LinesRead.{adds_line, at_end}
use Rattle.lb_replay_lines.proofs.script_lines.ScriptLines.add_line.Goals as goal

pub returns-then-read-eq0-clause-end : goal.returns-then-read-eq0-clause-end
returns-then-read-eq0-clause-end g c _ =
    let left = option_map lines_of (g.S.Read.remaining c.read_until.new.self) in
    subst (λ (v : ReadingView). AtEnd v.left v.piece c.read_until.new.buf.items left) c.self.view_is
    (at_end (g.S.Read.remaining c.self.inside.script) (g.S.Read.remaining c.read_until.new.self) c.self.inside.piece.items c.read_until.new.buf.items
    (c.in_ok-read.ensures.end c.if-read-eq0.true) c.in_ok-read.ensures.bytes c.in_ok-read.ensures.rest)

pub returns-clause-line : goal.returns-clause-line
returns-clause-line g c _ =
    let left = option_map lines_of (g.S.Read.remaining c.read_until.new.self) in
    subst (λ (v : ReadingView). AddsLine v.left v.piece c.read_until.new.buf.items left) c.self.view_is
    (adds_line (g.S.Read.remaining c.self.inside.script) (g.S.Read.remaining c.read_until.new.self) c.self.inside.piece.items c.read_until.new.buf.items
    (omega (arith, c.in_ok-read.ensures.ok, c.if-read-eq0.false)) c.in_ok-read.ensures.bytes c.in_ok-read.ensures.rest)
