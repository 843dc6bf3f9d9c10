-- What a configuration says of requests: HAProxy Configuration Manual 2.8, `use_backend` and `default_backend` (the backend), `stick on`
-- and `use-server` (what it is asked for), `option forwardfor`, and `server` (how a server is reached).
use Rattle.std.specs.Prelude.{ℕ, Bool, Option}
use Rattle.std.specs.Option.{option_map}
use Rattle.lb_acl.specs.HeadView.{HeadView}
use Rattle.lb_desk_model.specs.declared.event.Request.{Request}
use Rattle.http_relay_talk.specs.Lessons.{LessonView}
use Rattle.http_relay_talk.specs.Targets.{target_by}
use Rattle.http_relay_talk.specs.declared.target.Target.{Target}
use Rattle.http_relay_talk.specs.declared.target.Way.{Way}

-- what is said at one frontend, of backends by their numbers
pub record Routes : Type 1 where
  -- the backend that takes the head
  pub backend : HeadView → Option ℕ
  -- for the head, the backend is asked for this, whatever the moment
  pub asks : ℕ → HeadView → Request → Type 0
  -- the backend's servers get the client's address
  pub forwards_address : ℕ → Bool
  -- how the backend's server of this number is reached
  pub target : ℕ → ℕ → Option Way
  -- what the answer to the request may teach the backend
  pub lesson : ℕ → Request → Option LessonView

-- the backend's server of this number as the target of the request, if there is one
abbrev pub target_for : Routes → ℕ → Request → ℕ → Option Target
target_for routes backend request server = option_map (target_by (routes.lesson backend request)) (routes.target backend server)
