use Rattle.std.proofs.Common.{refl, sym, subst, Some, []}
use Rattle.std.proofs.lemmas.Result.{on_ok_weaker}
use Rattle.lb_types_counted.proofs.Writes.{Appends-nil}
use Rattle.lb_script.specs.declared.script_line.ScriptLine.{ScriptLine}
use Rattle.lb_replay.specs.Answers.{Answers}
use Rattle.lb_replay.specs.Steps.{Does}
use Rattle.lb_replay.proofs.Outcomes.{does_also, only_text}
use Rattle.lb_replay.proofs.answers.answer.Goals as goal

pub returns-in-Blank : goal.returns-in-Blank
returns-in-Blank g c =
    let day = c.args.day.now in
    let old = c.args.out.now.contents in
    subst (λ (s : ScriptLine). Does (Answers c.args.farm.now day c.args.text.now (Some s)) day old old) (sym c.in-Blank.is)
    (does_also day old old (λ o h. h) (only_text day day [] old old refl (Appends-nil old)))

pub returns-in-Show : goal.returns-in-Show
returns-in-Show g c =
    let day = c.args.day.now in
    let old = c.args.out.now.contents in
    let new = c.show.new.out.contents in
    on_ok_weaker c.show.result (λ went.
    subst (λ (s : ScriptLine). Does (Answers c.args.farm.now day c.args.text.now (Some s)) day old new) (sym c.in-Show.is)
    (does_also day old new (λ o h. h) (only_text day day _ old new refl went))) c.show.ensures

pub returns-in-Refused : goal.returns-in-Refused
returns-in-Refused g c =
    let day = c.args.day.now in
    let old = c.args.out.now.contents in
    let new = c.tell_refusal.new.out.contents in
    on_ok_weaker c.tell_refusal.result (λ went.
    subst (λ (s : ScriptLine). Does (Answers c.args.farm.now day c.args.text.now (Some s)) day old new) (sym c.in-Refused.is)
    (does_also day old new (λ o h. h) (only_text day day _ old new refl went))) c.tell_refusal.ensures
