use Rattle.std.proofs.Common.{◌≡◌, ◌∙◌, ◌+◌, ◌-◌, ◌++◌, Some, None, map, ap, sym, arith}
use Rattle.std.proofs.lemmas.List.{map_push}
use Rattle.lb_config_sections.specs.References.{checked_in}
use Rattle.lb_cli.specs.CheckingAll.{faults_after, next_fault, without_line}
use Rattle.lb_cli.specs.declared.check_all_job.TheConstants.{MOST_FAULTS}
use Rattle.lb_cli.proofs.FaultSteps.{one_more_found, none_more_found, most_found}
use Rattle.lb_cli.proofs.check_all_job.faults_of.Goals as goal

pub loop-preserved : goal.loop-preserved
loop-preserved c =
    let l = c.loop in
    let fault = c.in-Some.fault in
    let left = c.in_ok-left-2.left.items in
    let so_far = map (λ said. said.0) l.faults.items in
    let some : next_fault l.last (checked_in l.left.items) ≡ Some fault =
    ap (λ text. next_fault l.last (checked_in text)) (sym c.deref.ensures.value) ∙ sym c.in_ok-fault.ensures ∙ c.in-Some.is in
    let kept : left ≡ without_line fault.line l.left.items =
    c.in_ok-left-2.ensures ∙ ap (λ text. without_line fault.line text) c.deref-in-loop.ensures.value in
    ap (λ faults. map (λ said. said.0) faults ++ faults_after (Some fault.line) (MOST_FAULTS - (l.counter + 1)) left) c.in_ok-push.ensures.items
    ∙ ap (λ faults. faults ++ faults_after (Some fault.line) (MOST_FAULTS - (l.counter + 1)) left) (map_push (λ said. said.0) l.faults.items (fault, c.hint_at-hint.result))
    ∙ one_more_found so_far _ l.last MOST_FAULTS l.counter l.left.items left fault (omega arith) some kept l.invariant

pub returns-in_default : goal.returns-in_default
returns-in_default c =
    let l = c.loop in
    let none : next_fault l.last (checked_in l.left.items) ≡ None =
    ap (λ text. next_fault l.last (checked_in text)) (sym c.deref.ensures.value) ∙ sym c.in_ok-fault.ensures ∙ c.in_default.is in
    none_more_found (map (λ said. said.0) l.faults.items) _ l.last MOST_FAULTS l.counter l.left.items (omega arith) none l.invariant

pub returns : goal.returns
returns c = most_found (map (λ said. said.0) c.loop.faults.items) _ c.loop.last MOST_FAULTS c.loop.counter c.loop.left.items (omega arith) c.loop.invariant
