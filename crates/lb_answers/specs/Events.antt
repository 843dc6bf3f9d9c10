-- The words of each event. They are those by which a script asks for it, and a command's are those of HAProxy's Management
-- Guide 2.8, section 9.3 (`set server`, `set weight`, `set maxconn server`); `set maxpins server` and all others are our own.
use Rattle.std.specs.Prelude.{ℕ, Bool, true, false, ◌==◌, Option, Some, None, List, [], ◌∷◌, ◌++◌, flat_map, codes, if◌then◌else◌}
use Rattle.server_state.specs.declared.settings.AdminState.{AdminState}
use Rattle.server_state.specs.declared.settings.AdminState.TheVariants.{Ready, Drain, Maint}
use Rattle.server_state.specs.declared.change.Change.{Change}
use Rattle.server_state.specs.declared.change.Setting.{Setting}
use Rattle.server_state.specs.declared.change.Setting.TheVariants.{Admin, Health, Weight, MaxConnections, MaxPins}
use Rattle.lb_desk_model.specs.declared.backend.BackendServer.{BackendServer}
use Rattle.lb_desk_model.specs.declared.event.Event.{Event}
use Rattle.lb_desk_model.specs.declared.event.Event.TheVariants.{Serve, Set, Clear, Open, Close, Expire, Check, Command, Snapshot, Install}
use Rattle.lb_desk_model.specs.declared.event.Request.{Request}
use Rattle.lb_desk_model.specs.declared.event.SetPin.{SetPin}
use Rattle.lb_types.specs.Servers.{has, members}
use Rattle.pin_set.specs.declared.pin.PinId.{PinId}
use Rattle.lb_answers.specs.Keys.{asked_key, key_word}
use Rattle.lb_answers.specs.Names.{labelled, server_word}

-- a cost other than 1
abbrev pub cost_text : ℕ → List ℕ
cost_text cost = if cost == 1 then [] else labelled (codes " cost=") cost

-- each server behind a space
abbrev pub rules_text : List BackendServer → List ℕ → List ℕ
rules_text servers rules = flat_map (λ server. 32 ∷ server_word servers server) rules

abbrev pub request_text : List BackendServer → Request → List ℕ
request_text servers request =
    labelled (codes "serve ") request.moment ++ codes " " ++ asked_key request.key ++ rules_text servers request.rules
    ++ cost_text request.cost

-- each server of the set behind a space, in the configuration's order
abbrev pub wanted_text : List BackendServer → ℕ → List ℕ
wanted_text servers want = rules_text servers (members want)

-- the server behind a space, where the set has it
abbrev pub wanted_server : List BackendServer → ℕ → ℕ → List ℕ
wanted_server servers want server = if has want server then 32 ∷ server_word servers server else []

abbrev pub set_text : List BackendServer → SetPin → List ℕ
set_text servers set =
    labelled (codes "set ") set.moment ++ codes " " ++ key_word set.name.key ++ codes " " ++ server_word servers set.server
    ++ wanted_text servers set.name.want ++ cost_text set.cost

abbrev pub clear_text : List BackendServer → PinId → List ℕ
clear_text servers name = codes "clear " ++ key_word name.key ++ wanted_text servers name.want

abbrev pub result_word : Bool → List ℕ
result_word true = codes " ok"
result_word false = codes " fail"

-- the words before the server, by what is set
abbrev pub setting_front : Setting → List ℕ
setting_front (Admin state) = codes "set server "
setting_front (Health up) = codes "set server "
setting_front (Weight weight) = codes "set weight "
setting_front (MaxConnections most) = codes "set maxconn server "
setting_front (MaxPins most) = codes "set maxpins server "

abbrev pub state_words : AdminState → List ℕ
state_words Ready = codes " state ready"
state_words Drain = codes " state drain"
state_words Maint = codes " state maint"

abbrev pub health_words : Bool → List ℕ
health_words true = codes " health up"
health_words false = codes " health down"

-- the words behind the server
abbrev pub setting_behind : Setting → List ℕ
setting_behind (Admin state) = state_words state
setting_behind (Health is_up) = health_words is_up
setting_behind (Weight weight) = labelled (codes " ") weight
setting_behind (MaxConnections most) = labelled (codes " ") most
setting_behind (MaxPins most) = labelled (codes " ") most

-- a command, of the backend of this name
abbrev pub command_text : List ℕ → List BackendServer → Change → List ℕ
command_text backend servers change =
    setting_front change.setting ++ backend ++ codes "/" ++ server_word servers change.server ++ setting_behind change.setting

unfoldable pub event_text : List ℕ → List BackendServer → Event → List ℕ
event_text backend servers (Serve request) = request_text servers request
event_text backend servers (Set set) = set_text servers set
event_text backend servers (Clear name) = clear_text servers name
event_text backend servers (Open server) = codes "open " ++ server_word servers server
event_text backend servers (Close server) = codes "close " ++ server_word servers server
event_text backend servers (Expire moment) = labelled (codes "expire ") moment
event_text backend servers (Check server succeeded) = codes "check " ++ server_word servers server ++ result_word succeeded
event_text backend servers (Command change) = command_text backend servers change
event_text backend servers Snapshot = codes "snapshot"
event_text backend servers (Install plan) = labelled (codes "install version ") plan.version

-- the server that the event names, if it names one. A request may name several, and is answered with its server
abbrev pub asked_server : Event → Option ℕ
asked_server (Set set) = Some set.server
asked_server (Open server) = Some server
asked_server (Close server) = Some server
asked_server (Check server succeeded) = Some server
asked_server (Command change) = Some change.server
asked_server _ = None
