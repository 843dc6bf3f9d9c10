-- Where clients connect: HAProxy Configuration Manual 2.8, section 4.2 (`bind`, `timeout client`). That `timeout client` limits writes to
-- the client too is our own.
use Rattle.std.specs.Prelude.{ℕ, ◌+◌, List, [], ◌∷◌, ◌++◌, map}
use Rattle.http_relay_socket.specs.declared.limits.StreamLimits.{StreamLimits}
use Rattle.lb_config.specs.ConfigViews.{ConfigView, FrontendView}
use Rattle.lb_config.specs.Limits.{limit_of}
use Rattle.lb_config_arguments.specs.declared.address.Endpoint.{Endpoint}
use Rattle.lb_run_doors.specs.declared.client_door.ClientDoor.{ClientDoor}

-- a door without its listener
pub record DoorView : Type 0 where
  pub endpoint : Endpoint
  pub frontend : ℕ
  pub limits : StreamLimits

abbrev pub door_view : ClientDoor → DoorView
door_view door = record { endpoint = door.endpoint; frontend = door.frontend; limits = door.limits }

-- a client may hold up a read or a write for `timeout client`
abbrev pub limits_of : FrontendView → StreamLimits
limits_of frontend = record { read = limit_of frontend.client_time; write = limit_of frontend.client_time }

-- the door at this address of the frontend at this place
abbrev pub door_at : ℕ → FrontendView → Endpoint → DoorView
door_at place frontend endpoint = record { endpoint = endpoint; frontend = place; limits = limits_of frontend }

-- all doors of the frontend
abbrev pub doors_at : ℕ → FrontendView → List DoorView
doors_at place frontend = map (door_at place frontend) frontend.rules.binds

-- those of these frontends, the first of which stands at this place
abbrev pub doors_from : ℕ → List FrontendView → List DoorView
doors_from place [] = []
doors_from place (frontend ∷ frontends) = doors_at place frontend ++ doors_from (place + 1) frontends

-- those of a configuration
abbrev pub doors_of : ConfigView → List DoorView
doors_of config = doors_from 0 config.frontends
