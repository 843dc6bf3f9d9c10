-- A pin that a script sets, `set MOMENT KEY SERVER [server ..] [cost=N]`, and one that it clears, `clear KEY [server ..]`. The forms
-- are our own. The key is one of a request's, and the servers behind it are those that the pin wants.
use Rattle.std.specs.Prelude.{ℕ, List, [], ◌∷◌, map, Option, Some, None}
use Rattle.std.specs.Option.{option_map}
use Rattle.pin_set.specs.declared.pin.PinId.{PinId}
use Rattle.pin_set.specs.declared.pin_key.PinKey.{PinKey}
use Rattle.server_state.specs.Farm.{set_of}
use Rattle.lb_config_parameters.specs.TableViews.{StickTableView}
use Rattle.lb_config_values.specs.ServerView.{ServerView}
use Rattle.lb_config.specs.ConfigViews.{BackendView}
use Rattle.lb_config.specs.Finds.{server_place}
use Rattle.lb_desk_model.specs.declared.event.SetPin.{SetPin}
use Rattle.lb_script.specs.declared.asked.Asked.{Asked}
use Rattle.lb_script.specs.Requests.{asked_key, asked_in}
use Rattle.lb_script.specs.Words.{Word, ◌>>=◌, every, number_in}

-- the key that the word is. `-` is none
abbrev pub pin_key : Option StickTableView → Word → Option PinKey
pin_key table word = asked_key table word >>= λ key. key

abbrev pub named : PinKey → ℕ → PinId
named key want = record { key = key; want = want }

abbrev pub pin_to_set : PinKey → ℕ → ℕ → Asked → SetPin
pin_to_set key moment server asked = record {
  name = named key (set_of asked.rules);
  server = server;
  cost = asked.cost;
  moment = moment;
  cost_from = asked.cost_from;
  cost_to = asked.cost_to;
}

-- the pin that the words behind `set` set
unfoldable pub set_in : BackendView → List Word → Option SetPin
set_in backend (moment ∷ key ∷ server ∷ more) = do
  at ← number_in moment
  found ← pin_key backend.rules.table key
  place ← server_place backend.servers server
  asked ← asked_in backend.servers more
  Some (pin_to_set found at place asked)
set_in backend _ = None

-- the set of the servers that the words name
abbrev pub wanted_in : List ServerView → List Word → Option ℕ
wanted_in servers words = option_map set_of (every (map (server_place servers) words))

-- the name of the pin that the words behind `clear` clear
unfoldable pub clear_in : BackendView → List Word → Option PinId
clear_in backend (key ∷ more) = do
  found ← pin_key backend.rules.table key
  want ← wanted_in backend.servers more
  Some (named found want)
clear_in backend [] = None
