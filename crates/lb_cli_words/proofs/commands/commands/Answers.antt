use Rattle.std.proofs.Common.{◌≡◌, ◌∙◌, Result, Ok, Err, IfOk, IsOkAnd, ap}
use Rattle.std.proofs.lemmas.Result.{IfOk-weaker}
use Rattle.clap.specs.Words.{App, app_of, with_subcommand}
use Rattle.clap.specs.declared.builder.command.Command.{Command}
use Rattle.lb_cli_words.specs.Clap.{program_app, verify_app, plan_app, format_app, sheet_app, move_lines_app, check_app, replay_app, run_app}
use Rattle.lb_cli_words.proofs.commands.commands.Goals as goal

-- a program to which a command was added has one command more, the one that was made
adds : {E : Type 0} (before after command : App) (whole : App) (made : Result Command E)
    → IsOkAnd made (λ c. whole ≡ with_subcommand after (app_of c).top) → IfOk made (λ c. app_of c ≡ command) → after ≡ before
    → whole ≡ with_subcommand before command.top
adds before after command whole (Ok c) more is same = more ∙ ap (λ (a : App). with_subcommand after a.top) is ∙ ap (λ a. with_subcommand a command.top) same
adds before after command whole (Err e) more is same = absurd more

pub returns : goal.returns
returns c =
    let with_verify = adds program_app _ verify_app _ c.verify.result c.in_ok-commands.ensures c.verify.ensures.app c.in_ok-program.ensures.app in
    let with_plan = adds _ _ plan_app _ c.plan.result c.in_ok-commands-2.ensures c.plan.ensures.app with_verify in
    let with_format = adds _ _ format_app _ c.format.result c.in_ok-commands-3.ensures c.format.ensures.app with_plan in
    let with_sheet = adds _ _ sheet_app _ c.sheet.result c.in_ok-commands-4.ensures c.sheet.ensures.app with_format in
    let with_lines = adds _ _ move_lines_app _ c.move_lines.result c.in_ok-commands-5.ensures c.move_lines.ensures.app with_sheet in
    let with_check = adds _ _ check_app _ c.check.result c.in_ok-commands-6.ensures c.check.ensures.app with_lines in
    let with_replay = adds _ _ replay_app _ c.replay.result c.in_ok-commands-7.ensures c.replay.ensures.app with_check in
    IfOk-weaker c.with_command-8.result _ _ (λ whole more. adds _ _ run_app _ c.run.result more c.run.ensures.app with_replay)
    c.with_command-8.ensures
