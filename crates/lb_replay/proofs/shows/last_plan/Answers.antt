use Rattle.std.proofs.Common.{◌≡◌, refl, ap, sym, ◌∙◌}
use Rattle.std.specs.Option.{option_copied, option_or}
use Rattle.lb_answers.specs.Journals.{last_installed}
use Rattle.lb_replay.proofs.LastPlans.{copied_or, last_of_parts}
use Rattle.lb_replay.proofs.shows.last_plan.Goals as goal

pub returns : goal.returns
returns c =
    let earlier = c.as_slices.result.0.now in
    let later = c.as_slices.result.1.now in
    let whole : option_or (last_installed later) (last_installed earlier) ≡ last_installed c.args.journal.now.entries =
    sym (last_of_parts earlier later) ∙ ap last_installed c.as_slices.ensures in
    let or : option_copied c.or.result ≡ option_or (option_copied c.last_installed.result) (option_copied c.last_installed-2.result) =
    ap option_copied c.or.ensures ∙ copied_or c.last_installed.result c.last_installed-2.result in
    let parts : option_or (option_copied c.last_installed.result) (option_copied c.last_installed-2.result) ≡ option_or (last_installed later) (last_installed earlier) =
    rw (c.last_installed.ensures, c.last_installed-2.ensures) refl in
    or ∙ (parts ∙ whole)
