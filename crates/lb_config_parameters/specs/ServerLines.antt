-- Lines `server` and `default-server`: HAProxy Configuration Manual 2.8, section 4.2.
use Rattle.std.specs.Prelude.{false, true, Result, Ok}
use Rattle.lb_config_arguments.specs.declared.fault.Fault.{Fault}
use Rattle.lb_config_arguments.specs.Addresses.{server_endpoint_in}
use Rattle.lb_config_arguments.specs.Faults.{◌>>=◌}
use Rattle.lb_config_arguments.specs.Reading.{word_at, due_at, name_at}
use Rattle.lb_config_arguments.specs.Rest.{Rest}
use Rattle.lb_config_parameters.specs.declared.server_line.ServerLine.{ServerLine}
use Rattle.lb_config_parameters.specs.Options.{options_at}
use Rattle.lb_config_parameters.specs.OptionsView.{OptionsView}

-- the words behind `server`
unfoldable pub server_at : Rest → Result ServerLine Fault
server_at rest = do
  name ← name_at rest
  address ← word_at name.1
  endpoint ← server_endpoint_in address.0
  options ← options_at false address.1
  Ok (record { name = name.0; endpoint = endpoint; options = options })

-- the words behind `default-server`, at least one parameter
unfoldable pub default_server_at : Rest → Result OptionsView Fault
default_server_at rest = due_at rest >>= λ due. options_at true rest
