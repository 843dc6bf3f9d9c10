-- Parameters of servers: HAProxy Configuration Manual 2.8, section 5.2. `maxpins`, the most pins that a server may hold, is this
-- project's own.
use Rattle.std.specs.Prelude.{ℕ, Bool, true, false, not, List, Option, Some, None, Result, Ok, Err, codes, bytes_eq, if◌then◌else◌}
use Rattle.lb_types.specs.declared.limits.TheConstants.{MAX_CONNECTIONS, MAX_PINS, MAX_WEIGHT}
use Rattle.rise_fall.specs.declared.health.TheConstants.{MAX_STREAK}
use Rattle.lb_config_parameters.specs.declared.parameter.Parameter.{Parameter}
use Rattle.lb_config_parameters.specs.declared.parameter.Parameter.TheVariants.{Check, Backup, Disabled, Inter, Rise, Fall, Weight, MaxConnections, MaxPins}
use Rattle.lb_config_parameters.specs.declared.options_state.OptionsState.{OptionsState}
use Rattle.lb_config_parameters.specs.OptionsView.{OptionsView}
use Rattle.lb_config_arguments.specs.declared.fault.Fault.{Fault}
use Rattle.lb_config_arguments.specs.declared.fault.Fault.TheVariants.{Missing, LeftOut}
use Rattle.lb_config_arguments.specs.Faults.{◌>>=◌}
use Rattle.lb_config_arguments.specs.Rest.{Rest}
use Rattle.lb_config_arguments.specs.Numbers.{number_in, time_in}
use Rattle.lb_config_arguments.specs.Reading.{each_word}

-- the parameter that the word names
unfoldable pub parameter_of : List ℕ → Option Parameter
parameter_of word =
    if bytes_eq word (codes "check") then Some Check
    else (if bytes_eq word (codes "backup") then Some Backup
    else (if bytes_eq word (codes "disabled") then Some Disabled
    else (if bytes_eq word (codes "inter") then Some Inter
    else (if bytes_eq word (codes "rise") then Some Rise
    else (if bytes_eq word (codes "fall") then Some Fall
    else (if bytes_eq word (codes "weight") then Some Weight
    else (if bytes_eq word (codes "maxconn") then Some MaxConnections
    else (if bytes_eq word (codes "maxpins") then Some MaxPins else None))))))))

-- a server line has each parameter, `default-server` has all but `backup` and `disabled`
abbrev pub may_stand : Bool → Parameter → Bool
may_stand is_default Backup = not is_default
may_stand is_default Disabled = not is_default
may_stand is_default _ = true

-- nothing is said
abbrev pub no_options : OptionsView
no_options = record {
  is_checked = false;
  is_backup = false;
  is_disabled = false;
  interval = None;
  rise = None;
  fall = None;
  weight = None;
  max_connections = None;
  max_pins = None;
}

-- the state in which no value is due
abbrev pub said : OptionsView → OptionsState
said options = record { options = options; due = None }

-- the options with a parameter more, whose value stands in the next word where it has one
abbrev pub with_parameter : OptionsView → Parameter → OptionsState
with_parameter options Check = said (record options { is_checked = true })
with_parameter options Backup = said (record options { is_backup = true })
with_parameter options Disabled = said (record options { is_disabled = true })
with_parameter options parameter = record { options = options; due = Some parameter }

-- the options with this value of the parameter
unfoldable pub with_value : OptionsView → Parameter → List ℕ → Result OptionsView Fault
with_value options Inter word = time_in word >>= λ millis. Ok (record options { interval = Some millis })
with_value options Rise word = number_in 1 MAX_STREAK word >>= λ number. Ok (record options { rise = Some number })
with_value options Fall word = number_in 1 MAX_STREAK word >>= λ number. Ok (record options { fall = Some number })
with_value options Weight word = number_in 0 MAX_WEIGHT word >>= λ number. Ok (record options { weight = Some number })
with_value options MaxConnections word = number_in 0 MAX_CONNECTIONS word >>= λ number. Ok (record options { max_connections = Some number })
with_value options MaxPins word = number_in 0 MAX_PINS word >>= λ number. Ok (record options { max_pins = Some number })
with_value options _ word = Ok options

-- the parameter that the word names, where it may stand
abbrev pub allowed : Bool → List ℕ → Option Parameter → Result Parameter Fault
allowed is_default word (Some parameter) = if may_stand is_default parameter then Ok parameter else Err (LeftOut word)
allowed is_default word None = Err (LeftOut word)

-- a word more
abbrev pub option_word_due : Bool → OptionsView → Option Parameter → List ℕ → Result OptionsState Fault
option_word_due is_default options (Some parameter) word = with_value options parameter word >>= λ with. Ok (said with)
option_word_due is_default options None word = allowed is_default word (parameter_of word) >>= λ parameter. Ok (with_parameter options parameter)

unfoldable pub option_word : Bool → OptionsState → List ℕ → Result OptionsState Fault
option_word is_default state word = option_word_due is_default state.options state.due word

-- the end of the parameters
abbrev pub options_due : OptionsView → Option Parameter → Result OptionsView Fault
options_due options None = Ok options
options_due options (Some parameter) = Err Missing

unfoldable pub options_end : OptionsState → Result OptionsView Fault
options_end state = options_due state.options state.due

-- the parameters up to the line's end
unfoldable pub options_at : Bool → Rest → Result OptionsView Fault
options_at is_default rest = each_word (option_word is_default) (said no_options) rest >>= options_end
