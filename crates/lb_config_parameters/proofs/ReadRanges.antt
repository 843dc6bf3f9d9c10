-- What lines say of servers and tables is in its ranges.
use Rattle.std.proofs.Common.{◌≤◌, ℕ, Bool, true, List, Option, Some, None, IfOk, IfSome, arith, codes, bytes_eq}
use Rattle.lb_types.specs.declared.limits.TheConstants.{MAX_CONNECTIONS, MAX_PINS, MAX_WEIGHT}
use Rattle.rise_fall.specs.declared.health.TheConstants.{MAX_STREAK}
use Rattle.lb_acl.specs.declared.key.TheConstants.{MAX_KEY_LEN}
use Rattle.lb_acl.specs.declared.key.TableType.{TableType}
use Rattle.lb_config_arguments.specs.Numbers.{number_in, size_in, time_in}
use Rattle.lb_config_arguments.specs.Ranges.{IsFromTo, IsTime}
use Rattle.lb_config_arguments.specs.Reading.{due_at, each_word}
use Rattle.lb_config_arguments.specs.Rest.{Rest}
use Rattle.lb_config_arguments.proofs.KeptSteps.{bind_ok, cond_ok, each_word_ok, then_ok}
use Rattle.lb_config_arguments.proofs.ReadRanges.{at_most_ok, number_ok, size_ok, time_ok}
use Rattle.lb_config_parameters.specs.declared.options_state.OptionsState.{OptionsState}
use Rattle.lb_config_parameters.specs.declared.parameter.Parameter.{Parameter}
use Rattle.lb_config_parameters.specs.declared.parameter.Parameter.TheVariants as Of
use Rattle.lb_config_parameters.specs.declared.table_draft.TableDue.{TableDue}
use Rattle.lb_config_parameters.specs.declared.table_draft.TableDue.TheVariants as Due
use Rattle.lb_config_parameters.specs.Options.{allowed, no_options, option_word, option_word_due, options_at, options_due, options_end, parameter_of, said, with_parameter, with_value}
use Rattle.lb_config_parameters.specs.OptionsView.{OptionsView}
use Rattle.lb_config_parameters.specs.Ranges.{AreOptions, IsKeyType, IsTable}
use Rattle.lb_config_parameters.specs.ServerLines.{default_server_at}
use Rattle.lb_config_parameters.specs.StickTables.{is_left_out_type, is_whole, no_table, stick_table_at, table_end, table_parameter, table_type, table_with, table_word, table_word_due}
use Rattle.lb_config_parameters.specs.TableViews.{TableDraftView}

nothing_said : AreOptions no_options
nothing_said = record { interval = tt; rise = tt; fall = tt; weight = tt; max_connections = tt; max_pins = tt }

-- a value of a parameter
value_ok : (options : OptionsView) (parameter : Parameter) (word : List ℕ) → AreOptions options → IfOk (with_value options parameter word) AreOptions
unfolding with_value
value_ok options Of.Inter word is =
    bind_ok IsTime AreOptions (time_in word) _ (time_ok word)
    (λ millis holds. record { interval = holds; rise = is.rise; fall = is.fall; weight = is.weight; max_connections = is.max_connections; max_pins = is.max_pins })
value_ok options Of.Rise word is =
    bind_ok (IsFromTo 1 MAX_STREAK) AreOptions (number_in 1 MAX_STREAK word) _ (number_ok 1 MAX_STREAK word)
    (λ number holds. record { interval = is.interval; rise = holds; fall = is.fall; weight = is.weight; max_connections = is.max_connections; max_pins = is.max_pins })
value_ok options Of.Fall word is =
    bind_ok (IsFromTo 1 MAX_STREAK) AreOptions (number_in 1 MAX_STREAK word) _ (number_ok 1 MAX_STREAK word)
    (λ number holds. record { interval = is.interval; rise = is.rise; fall = holds; weight = is.weight; max_connections = is.max_connections; max_pins = is.max_pins })
value_ok options Of.Weight word is =
    bind_ok (λ number. number ≤ MAX_WEIGHT) AreOptions (number_in 0 MAX_WEIGHT word) _ (at_most_ok MAX_WEIGHT word)
    (λ number holds. record { interval = is.interval; rise = is.rise; fall = is.fall; weight = holds; max_connections = is.max_connections; max_pins = is.max_pins })
value_ok options Of.MaxConnections word is =
    bind_ok (λ number. number ≤ MAX_CONNECTIONS) AreOptions (number_in 0 MAX_CONNECTIONS word) _ (at_most_ok MAX_CONNECTIONS word)
    (λ number holds. record { interval = is.interval; rise = is.rise; fall = is.fall; weight = is.weight; max_connections = holds; max_pins = is.max_pins })
value_ok options Of.MaxPins word is =
    bind_ok (λ number. number ≤ MAX_PINS) AreOptions (number_in 0 MAX_PINS word) _ (at_most_ok MAX_PINS word)
    (λ number holds. record { interval = is.interval; rise = is.rise; fall = is.fall; weight = is.weight; max_connections = is.max_connections; max_pins = holds })
value_ok options Of.Check word is = is
value_ok options Of.Backup word is = is
value_ok options Of.Disabled word is = is

parameter_ok : (options : OptionsView) (parameter : Parameter) → AreOptions options → AreOptions (with_parameter options parameter).options
parameter_ok options Of.Check is = record { interval = is.interval; rise = is.rise; fall = is.fall; weight = is.weight; max_connections = is.max_connections; max_pins = is.max_pins }
parameter_ok options Of.Backup is = record { interval = is.interval; rise = is.rise; fall = is.fall; weight = is.weight; max_connections = is.max_connections; max_pins = is.max_pins }
parameter_ok options Of.Disabled is = record { interval = is.interval; rise = is.rise; fall = is.fall; weight = is.weight; max_connections = is.max_connections; max_pins = is.max_pins }
parameter_ok options Of.Inter is = is
parameter_ok options Of.Rise is = is
parameter_ok options Of.Fall is = is
parameter_ok options Of.Weight is = is
parameter_ok options Of.MaxConnections is = is
parameter_ok options Of.MaxPins is = is

word_due_ok : (is_default : Bool) (options : OptionsView) (due : Option Parameter) (word : List ℕ) → AreOptions options →
    IfOk (option_word_due is_default options due word) (λ state. AreOptions state.options)
word_due_ok is_default options (Some parameter) word is =
    bind_ok AreOptions (λ state. AreOptions state.options) (with_value options parameter word) _ (value_ok options parameter word is) (λ with holds. holds)
word_due_ok is_default options None word is =
    then_ok (λ state. AreOptions state.options) (allowed is_default word (parameter_of word)) _ (λ parameter. parameter_ok options parameter is)

option_word_ok : (is_default : Bool) (state : OptionsState) (word : List ℕ) → AreOptions state.options →
    IfOk (option_word is_default state word) (λ next. AreOptions next.options)
unfolding option_word
option_word_ok is_default state word is = word_due_ok is_default state.options state.due word is

due_ok : (options : OptionsView) (due : Option Parameter) → AreOptions options → IfOk (options_due options due) AreOptions
due_ok options None is = is
due_ok options (Some parameter) is = tt

options_end_ok : (state : OptionsState) → AreOptions state.options → IfOk (options_end state) AreOptions
unfolding options_end
options_end_ok state is = due_ok state.options state.due is

pub options_ok : (is_default : Bool) (rest : Rest) → IfOk (options_at is_default rest) AreOptions
unfolding options_at
options_ok is_default rest =
    bind_ok (λ (state : OptionsState). AreOptions state.options) AreOptions (each_word (option_word is_default) (said no_options) rest) options_end
    (each_word_ok (λ (state : OptionsState). AreOptions state.options) (option_word is_default) (option_word_ok is_default) (said no_options) rest nothing_said)
    options_end_ok

pub default_server_ok : (rest : Rest) → IfOk (default_server_at rest) AreOptions
unfolding default_server_at
default_server_ok rest = then_ok AreOptions (due_at rest) _ (λ due. options_ok true rest)

-- a table as far as it was read
record IsDraft (table : TableDraftView) : Type 0 where
  kind : IfSome table.kind IsKeyType
  size : IfSome table.size (IsFromTo 1 MAX_PINS)
  expire : IfSome table.expire IsTime

parameter_name_ok : (table : TableDraftView) (word : List ℕ) → IsDraft table → IfOk (table_parameter table word) IsDraft
unfolding table_parameter
parameter_name_ok table word is =
    cond_ok IsDraft (bytes_eq word (codes "type")) _ _ (λ e. record { kind = is.kind; size = is.size; expire = is.expire })
    (λ e. cond_ok IsDraft (bytes_eq word (codes "size")) _ _ (λ e. record { kind = is.kind; size = is.size; expire = is.expire })
    (λ e. cond_ok IsDraft (bytes_eq word (codes "expire")) _ _ (λ e. record { kind = is.kind; size = is.size; expire = is.expire })
    (λ e. cond_ok IsDraft (bytes_eq word (codes "nopurge")) _ _ (λ e. record { kind = is.kind; size = is.size; expire = is.expire })
    (λ e. tt))))

type_ok : (table : TableDraftView) (word : List ℕ) → IsDraft table → IfOk (table_type table word) IsDraft
unfolding table_type
type_ok table word is =
    cond_ok IsDraft (bytes_eq word (codes "ip")) _ _ (λ e. record { kind = tt; size = is.size; expire = is.expire })
    (λ e. cond_ok IsDraft (bytes_eq word (codes "string")) _ _ (λ e. record { kind = (omega arith, omega arith); size = is.size; expire = is.expire })
    (λ e. cond_ok IsDraft (is_left_out_type word) _ _ (λ e. tt) (λ e. tt)))

table_due_ok : (due : TableDue) (table : TableDraftView) (word : List ℕ) → IsDraft table → IfOk (table_word_due due table word) IsDraft
table_due_ok Due.Parameter table word is = parameter_name_ok table word is
table_due_ok Due.LenOrParameter table word is =
    cond_ok IsDraft (bytes_eq word (codes "len")) _ _ (λ e. record { kind = is.kind; size = is.size; expire = is.expire })
    (λ e. parameter_name_ok table word is)
table_due_ok Due.Type table word is = type_ok table word is
table_due_ok Due.Len table word is =
    bind_ok (IsFromTo 1 MAX_KEY_LEN) IsDraft (number_in 1 MAX_KEY_LEN word) _ (number_ok 1 MAX_KEY_LEN word)
    (λ len holds. record { kind = holds; size = is.size; expire = is.expire })
table_due_ok Due.Size table word is =
    bind_ok (IsFromTo 1 MAX_PINS) IsDraft (size_in word) _ (size_ok word) (λ size holds. record { kind = is.kind; size = holds; expire = is.expire })
table_due_ok Due.Expire table word is =
    bind_ok IsTime IsDraft (time_in word) _ (time_ok word) (λ millis holds. record { kind = is.kind; size = is.size; expire = holds })

table_word_ok : (table : TableDraftView) (word : List ℕ) → IsDraft table → IfOk (table_word table word) IsDraft
unfolding table_word
table_word_ok table word is = table_due_ok table.due table word is

table_with_ok : (table : TableDraftView) (kind : Option TableType) (size : Option ℕ) → IfSome kind IsKeyType → IfSome size (IsFromTo 1 MAX_PINS) →
    IfSome table.expire IsTime → IfOk (table_with table kind size) IsTable
table_with_ok table (Some kind) (Some size) of_kind of_size of_expire = record { kind = of_kind; size = of_size; expire = of_expire }
table_with_ok table (Some kind) None of_kind of_size of_expire = tt
table_with_ok table None size of_kind of_size of_expire = tt

table_end_ok : (table : TableDraftView) → IsDraft table → IfOk (table_end table) IsTable
unfolding table_end
table_end_ok table is =
    cond_ok IsTable (is_whole table.due) _ _ (λ e. table_with_ok table table.kind table.size is.kind is.size is.expire) (λ e. tt)

pub table_ok : (rest : Rest) → IfOk (stick_table_at rest) IsTable
unfolding stick_table_at
table_ok rest =
    bind_ok IsDraft IsTable (each_word table_word no_table rest) table_end
    (each_word_ok IsDraft table_word table_word_ok no_table rest (record { kind = tt; size = tt; expire = tt }))
    table_end_ok
