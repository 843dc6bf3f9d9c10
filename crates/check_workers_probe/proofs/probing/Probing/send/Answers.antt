use Rattle.std.proofs.Common.{◌≡◌, ◌-◌, [], length, take, drop, sym}
use Rattle.check_workers_probe.proofs.Courses.{sends, cut, cut_behind, none_left, goes_on_twice}
use Rattle.check_workers_probe.proofs.probing.Probing.send.Goals as goal

pub returns-in_err-answer-clause-goes_on : goal.returns-in_err-answer-clause-goes_on
returns-in_err-answer-clause-goes_on g c =
    let p = c.self.inside in
    let sent = c.write_most-count in
    rw (sym c.self.view_is)
    (sends _ _ _ (take sent.result.0 p.line.now) _ _ _ _ _ (cut p.line.now p.fields.now sent.result.0 sent.ensures.within) sent.ensures.written sent.ensures.reading)

pub returns-clause-goes_on : goal.returns-clause-goes_on
returns-clause-goes_on g c =
    let p = c.self.inside in
    let line = c.write_most-count in
    let fields = c.write_most-count-2 in
    let rest = take (length p.line.now - line.result.0) (drop line.result.0 p.line.now) in
    let none : rest ≡ [] = none_left p.line.now line.result.0 (rw c.in_ok-answer.was at line.ensures.ok) in
    rw (sym c.self.view_is)
    (goes_on_twice _ _ _ _ _ _ _ _ _
    (sends _ _ _ (take line.result.0 p.line.now) _ _ _ _ _ (cut p.line.now p.fields.now line.result.0 line.ensures.within) line.ensures.written line.ensures.reading)
    (sends _ _ _ (take fields.result.0 p.fields.now) _ _ _ _ _ (cut_behind rest p.fields.now fields.result.0 none fields.ensures.within) fields.ensures.written fields.ensures.reading))
