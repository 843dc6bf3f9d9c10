-- Single values: HAProxy Configuration Manual 2.8, sections 3 and 4. Of a setting that is given twice the last one counts.
use Rattle.std.specs.Prelude.{ℕ, Bool, true, false, ◌||◌, List, Option, Some, None}
use Rattle.std.specs.List.{filter_map, list_any, last_or}
use Rattle.check_workers_rule.specs.CheckRequests.{CheckLine, check_line}
use Rattle.lb_config_keywords.specs.declared.http_check.HttpCheck.{HttpCheck}
use Rattle.lb_types.specs.declared.balance.Balance.{Balance}
use Rattle.lb_config_lines.specs.declared.setting.Setting.{Setting}
use Rattle.lb_config_lines.specs.declared.setting.Setting.TheVariants as Set
use Rattle.lb_config_keywords.specs.declared.second_word.Timeout.{Timeout}
use Rattle.lb_config_keywords.specs.declared.second_word.Timeout.TheVariants as Time
use Rattle.lb_config_keywords.specs.declared.stats_socket.SocketAddress.{SocketAddress}
use Rattle.lb_config_sections.specs.declared.config_section.NumberedSetting.{NumberedSetting}
use Rattle.lb_config_values.specs.declared.timeouts.Timeouts.{Timeouts}
use Rattle.lb_config_values.specs.GlobalsView.{GlobalsView}
use Rattle.lb_config_values.specs.declared.proxy_values.ProxyValues.{ProxyValues}

-- what the settings say of a value, in their order
abbrev pub said : {A : Type 0} → (Setting → Option A) → List NumberedSetting → List A
said value settings = filter_map (λ numbered. value numbered.setting) settings

-- the last that they say of it, or what was said before
abbrev pub last_said : {A : Type 0} → Option A → (Setting → Option A) → List NumberedSetting → Option A
last_said before value settings = last_or before (said value settings)

-- some line is the option, or it was said before
abbrev pub is_said : Bool → (Setting → Bool) → List NumberedSetting → Bool
is_said before option settings = before || list_any (λ numbered. option numbered.setting) settings

abbrev pub balance_in : Setting → Option Balance
balance_in (Set.Balance balance) = Some balance
balance_in _ = None

-- the request line that an `option httpchk` gives checks
abbrev pub request_line_of : HttpCheck → CheckLine
request_line_of check = check_line check.method check.uri check.version

abbrev pub check_line_in : Setting → Option CheckLine
check_line_in (Set.HttpCheck check) = Some (request_line_of check)
check_line_in _ = None

abbrev pub default_backend_in : Setting → Option (List ℕ)
default_backend_in (Set.DefaultBackend name) = Some name
default_backend_in _ = None

abbrev pub is_all_backups : Setting → Bool
is_all_backups Set.AllBackups = true
is_all_backups _ = false

abbrev pub is_evacuate : Setting → Bool
is_evacuate Set.Evacuate = true
is_evacuate _ = false

abbrev pub is_forward_for : Setting → Bool
is_forward_for Set.ForwardFor = true
is_forward_for _ = false

-- the times, each by its own lines
abbrev pub client_time : Setting → Option ℕ
client_time (Set.Timeout Time.Client millis) = Some millis
client_time _ = None

abbrev pub connect_time : Setting → Option ℕ
connect_time (Set.Timeout Time.Connect millis) = Some millis
connect_time _ = None

abbrev pub server_time : Setting → Option ℕ
server_time (Set.Timeout Time.Server millis) = Some millis
server_time _ = None

abbrev pub queue_time : Setting → Option ℕ
queue_time (Set.Timeout Time.Queue millis) = Some millis
queue_time _ = None

abbrev pub check_time : Setting → Option ℕ
check_time (Set.Timeout Time.Check millis) = Some millis
check_time _ = None

abbrev pub times_behind : Timeouts → List NumberedSetting → Timeouts
times_behind times settings = record {
  client = last_said times.client client_time settings;
  connect = last_said times.connect connect_time settings;
  server = last_said times.server server_time settings;
  queue = last_said times.queue queue_time settings;
  check = last_said times.check check_time settings;
}

-- what the settings say of each value, or what was said before them
abbrev pub values_behind : ProxyValues → List NumberedSetting → ProxyValues
values_behind values settings = record {
  balance = last_said values.balance balance_in settings;
  default_backend = last_said values.default_backend default_backend_in settings;
  timeouts = times_behind values.timeouts settings;
  all_backups = is_said values.all_backups is_all_backups settings;
  evacuate = is_said values.evacuate is_evacuate settings;
  forward_for = is_said values.forward_for is_forward_for settings;
}

abbrev pub relays_in : Setting → Option ℕ
relays_in (Set.Relays number) = Some number
relays_in _ = None

abbrev pub tries_in : Setting → Option ℕ
tries_in (Set.Tries number) = Some number
tries_in _ = None

abbrev pub journal_in : Setting → Option ℕ
journal_in (Set.Journal number) = Some number
journal_in _ = None

abbrev pub socket_in : Setting → Option SocketAddress
socket_in (Set.StatsSocket socket) = Some socket.address
socket_in _ = None

-- the same of `global`
abbrev pub globals_behind : GlobalsView → List NumberedSetting → GlobalsView
globals_behind values settings = record {
  relays = last_said values.relays relays_in settings;
  tries = last_said values.tries tries_in settings;
  journal = last_said values.journal journal_in settings;
  socket = last_said values.socket socket_in settings;
}

-- nothing is said
abbrev pub no_timeouts : Timeouts
no_timeouts = record { client = None; connect = None; server = None; queue = None; check = None }

abbrev pub no_values : ProxyValues
no_values = record {
  balance = None;
  default_backend = None;
  timeouts = no_timeouts;
  all_backups = false;
  evacuate = false;
  forward_for = false;
}

abbrev pub no_globals : GlobalsView
no_globals = record { relays = None; tries = None; journal = None; socket = None }

-- What follows is for proofs alone: one line more. No public clause cites it.

abbrev pub with_timeout : Timeouts → Timeout → ℕ → Timeouts
with_timeout times Time.Client millis = record times { client = Some millis }
with_timeout times Time.Connect millis = record times { connect = Some millis }
with_timeout times Time.Server millis = record times { server = Some millis }
with_timeout times Time.Queue millis = record times { queue = Some millis }
with_timeout times Time.Check millis = record times { check = Some millis }

abbrev pub with_setting : ProxyValues → Setting → ProxyValues
with_setting values (Set.Balance balance) = record values { balance = Some balance }
with_setting values (Set.DefaultBackend name) = record values { default_backend = Some name }
with_setting values (Set.Timeout which millis) = record values { timeouts = with_timeout values.timeouts which millis }
with_setting values Set.AllBackups = record values { all_backups = true }
with_setting values Set.Evacuate = record values { evacuate = true }
with_setting values Set.ForwardFor = record values { forward_for = true }
with_setting values _ = values

abbrev pub with_global : GlobalsView → Setting → GlobalsView
with_global values (Set.Relays number) = record values { relays = Some number }
with_global values (Set.Tries number) = record values { tries = Some number }
with_global values (Set.Journal number) = record values { journal = Some number }
with_global values (Set.StatsSocket socket) = record values { socket = Some socket.address }
with_global values _ = values
