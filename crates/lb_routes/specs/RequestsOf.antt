-- What a configuration says of requests: HAProxy Configuration Manual 2.8, section 4.2 (`use_backend` and `default_backend`, `stick on`
-- and `stick-table`, `use-server`, `option forwardfor`, `server`, `timeout`). `pin-cost` and limits of 0 are our own.
use Rattle.std.specs.Prelude.{◌≡◌, ℕ, ◌||◌, false, List, Option, Some, None, IfSome, if◌then◌else◌, slice_get}
use Rattle.std.specs.Option.{option_and_then, option_map, option_map_or}
use Rattle.pin_set.specs.declared.pin_key.PinKey.{PinKey}
use Rattle.lb_acl.specs.declared.key.StickOn.{StickOn}
use Rattle.lb_acl.specs.HeadView.{HeadView}
use Rattle.lb_acl.specs.Keys.{IsKeyOf}
use Rattle.lb_acl.specs.Rules.{designated, pin_cost}
use Rattle.lb_config_arguments.specs.declared.address.Endpoint.{Endpoint as Configured}
use Rattle.lb_config_rules.specs.RulesView.{BackRulesView}
use Rattle.lb_config_values.specs.ServerView.{ServerView}
use Rattle.lb_config_values.specs.declared.timeouts.Timeouts.{Timeouts}
use Rattle.lb_config.specs.ConfigViews.{BackendView, ConfigView}
use Rattle.lb_config.specs.Fronts.{backend_of}
use Rattle.lb_config.specs.Limits.{limit_of, queue_limit}
use Rattle.lb_desk_model.specs.declared.event.Request.{Request}
use Rattle.lb_desk_model.specs.Serves.{want_of}
use Rattle.http_relay_dial.specs.declared.endpoint.Endpoint.{Endpoint}
use Rattle.http_relay_dial.specs.declared.endpoint.Limits.{Limits}
use Rattle.http_relay_talk.specs.Lessons.{LessonView}
use Rattle.http_relay_talk.specs.declared.target.Way.{Way}
use Rattle.set_cookie.specs.TaughtKeys.{learns}
use Rattle.http_relay_serve.specs.Routes.{Routes}
use Rattle.lb_routes.specs.FrontendRoutesView.{FrontendRoutesView}

-- ---- what a backend is asked

-- the key of the head's pin; without a `stick on` with a table there are no pins
abbrev pub IsPinKey : Option StickOn → HeadView → Option PinKey → Type 0
IsPinKey None head key = key ≡ None
IsPinKey (Some pattern) head key = IsKeyOf pattern head key

-- what a backend with these rules is asked for a head
pub record IsRequestOf (rules : BackRulesView) (head : HeadView) (request : Request) : Type 0 where
  pub key : IsPinKey rules.stick_on head request.key
  -- the servers of the rules `use-server` that apply, in the rules' order
  pub servers : request.rules ≡ designated head rules.use_servers
  -- the cost of the first rule `pin-cost` that applies, or 1
  pub cost : request.cost ≡ pin_cost head rules.pin_costs

-- what the backend at this place is asked for a head
abbrev pub AsksAt : List BackendView → ℕ → HeadView → Request → Type 0
AsksAt backends place head request = IfSome (slice_get backends place) (λ asked. IsRequestOf asked.rules head request)

-- ---- how a server is reached

abbrev pub endpoint_of : Configured → Endpoint
endpoint_of configured = record { address = configured.address; port = configured.port }

-- how long a dial may take, and each read and write
abbrev pub limits_of : Timeouts → Limits
limits_of times = record { connect = limit_of times.connect; transfer = limit_of times.server }

-- how a server of the backend is reached
abbrev pub target_of : BackendView → ℕ → ServerView → Way
target_of backend number server = record {
  server = number;
  endpoint = endpoint_of server.endpoint;
  limits = limits_of backend.timeouts;
  queue = queue_limit backend.timeouts;
}

-- how the server of this number is reached, if the backend has it
abbrev pub target_in : ℕ → BackendView → Option Way
target_in number backend = option_map (target_of backend number) (slice_get backend.servers number)

-- how the server of this number is reached of the backend at this place, if there is one
abbrev pub target_at : List BackendView → ℕ → ℕ → Option Way
target_at backends place number = option_and_then (target_in number) (slice_get backends place)

-- ---- what an answer teaches

-- The answer to the request may teach where the session of a cookie is, with the servers that the request wants, its cost and its moment. Of
-- other keys nothing is learned
abbrev pub lesson_of : Request → StickOn → Option LessonView
lesson_of request pattern =
    if learns pattern.sample
    then Some (record { pattern = pattern; want = want_of request; cost = request.cost; moment = request.moment })
    else None

-- what the answer to the request may teach the backend at this place
abbrev pub lesson_at : List BackendView → ℕ → Request → Option LessonView
lesson_at backends place request = option_and_then (lesson_of request) (option_and_then (λ asked. asked.rules.stick_on) (slice_get backends place))

-- ---- the whole

-- what is said at a frontend of requests, of these backends by their numbers
abbrev pub routes_of : FrontendRoutesView → Routes
routes_of routes = record {
  backend = backend_of routes.frontend;
  asks = AsksAt routes.backends;
  forwards_address = λ backend. routes.frontend.forward_for || option_map_or (λ asked. asked.forward_for) (slice_get routes.backends backend) false;
  target = target_at routes.backends;
  lesson = lesson_at routes.backends;
}

-- what the configuration has at its frontend of this place, if it has that
abbrev pub routes_at : ConfigView → ℕ → Option FrontendRoutesView
routes_at config place = option_map (λ frontend. record { frontend = frontend; backends = config.backends }) (slice_get config.frontends place)
