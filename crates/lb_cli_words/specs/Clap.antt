-- The commands as `clap` sees them, so that it gives the help that is asked for. No public clause cites this module.
use Rattle.std.specs.Prelude.{true, Some, codes}
use Rattle.clap.specs.Words.{App, Rule, Text, new_app, new_rule, with_rule, with_subcommand}
use Rattle.clap.specs.declared.builder.action.ArgAction.TheVariants.{SetTrue}

-- the argument that names a file
abbrev pub file_rule : Rule
file_rule = record (new_rule (codes "file")) { value_names = 1; required = true }

-- the option `-f` (102), which names a file
abbrev pub file_option_rule : Rule
file_option_rule = record (new_rule (codes "file")) { short = Some 102; value_names = 1; required = true }

-- an option with a long name, which names a file
abbrev pub named_rule : Text → Rule
named_rule name = record (new_rule name) { long = Some name; value_names = 1 }

-- an option with a long name and no value
abbrev pub flag_rule : Text → Rule
flag_rule name = record (new_rule name) { long = Some name; action = Some SetTrue }

abbrev pub verify_app : App
verify_app = with_rule (with_rule (new_app (codes "verify")) (named_rule (codes "sheet"))) file_rule

abbrev pub plan_app : App
plan_app = with_rule (with_rule (new_app (codes "plan")) (flag_rule (codes "table"))) file_rule

abbrev pub format_app : App
format_app = with_rule (new_app (codes "format")) file_rule

-- an argument in its place, which must be there
abbrev pub operand_rule : Text → Rule
operand_rule name = record (new_rule name) { value_names = 1; required = true }

abbrev pub sheet_app : App
sheet_app = with_rule (with_rule (with_rule (new_app (codes "sheet")) (operand_rule (codes "target"))) (operand_rule (codes "state"))) (operand_rule (codes "dump"))

abbrev pub move_lines_app : App
move_lines_app = with_rule (with_rule (with_rule (with_rule (new_app (codes "commands"))
    (operand_rule (codes "backend"))) (operand_rule (codes "state"))) (operand_rule (codes "dump"))) (operand_rule (codes "plan"))

abbrev pub check_app : App
check_app = with_rule (with_rule (with_rule (new_app (codes "check")) file_option_rule) (flag_rule (codes "all"))) (flag_rule (codes "haproxy"))

abbrev pub run_app : App
run_app = with_rule (with_rule (with_rule (new_app (codes "run")) file_option_rule) (named_rule (codes "pins"))) (named_rule (codes "pins-every"))

abbrev pub replay_app : App
replay_app = with_rule (with_rule (new_app (codes "replay")) (operand_rule (codes "config"))) (operand_rule (codes "script"))

-- the program without its option and its commands
abbrev pub plain_app : App
plain_app = let program : App = new_app (codes "stickylb") in record program {
  top = record program.top {
    arg_required_else_help = true;
    subcommand_required = true;
    disable_help_subcommand = true;
  };
}

-- the program without its commands
abbrev pub program_app : App
program_app = with_rule plain_app (flag_rule (codes "version"))

-- the program with its commands
abbrev pub commands_app : App
commands_app = with_subcommand (with_subcommand (with_subcommand (with_subcommand (with_subcommand (with_subcommand (with_subcommand (with_subcommand program_app
    verify_app.top) plan_app.top) format_app.top) sheet_app.top) move_lines_app.top) check_app.top) replay_app.top) run_app.top
