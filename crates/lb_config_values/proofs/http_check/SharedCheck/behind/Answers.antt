use Rattle.std.proofs.Common.{Some, None}
use Rattle.lb_config_values.specs.Values.{check_line_in, request_line_of}
use Rattle.lb_config_values.proofs.ValueSteps.{said_behind}
use Rattle.lb_config_values.proofs.http_check.SharedCheck.behind.Goals as goal

pub returns-in-Some : goal.returns-in-Some
returns-in-Some c = rw (said_behind c.args.self.now (Some (request_line_of c.in-Some.check.now)) check_line_in c.args.settings.now c.in-Some.ensures) c.of.ensures

pub returns-in-None : goal.returns-in-None
returns-in-None c = rw (said_behind c.args.self.now None check_line_in c.args.settings.now c.in-None.ensures) c.share.ensures
