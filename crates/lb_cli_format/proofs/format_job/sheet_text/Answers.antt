use Rattle.std.proofs.Common.{Some, ap, ◌∙◌}
use Rattle.lb_cli_format.proofs.Written.{whole_text}
use Rattle.lb_cli_format.proofs.format_job.sheet_text.Goals as goal

pub returns-in-Ok : goal.returns-in-Ok
returns-in-Ok c =
    whole_text _ _ _ _ (ap (λ w. w.contents) c.new-text.ensures ∙ ap Some c.new.ensures.items) c.in-Ok.ensures.whole c.into_inner.ensures
