use Rattle.std.specs.Option.{option_map}
use Rattle.lb_replay_lines.specs.Lines.{lines_of}
use Rattle.lb_replay.specs.Steps.{GoneSoFar}
use Rattle.lb_replay.proofs.job.replay_lines.Given as goal

abbrev pub invariant-loop : goal.invariant-loop
invariant-loop g l =
    GoneSoFar l.farm (option_map lines_of (g.S.Read.remaining l.fn.script)) l.lines l.day l.fn.out.contents l.out.contents
