-- How a backend of the configuration begins to run: HAProxy Configuration Manual 2.8, sections 4.2 and 5.2, say what the configuration
-- means. Which backend of the machine it is read as is defined in `lb_desk_backend`, where one is proved to be the only one; desks and
-- the replies of a list of events are defined in `lb_desk_step`. The journal is our own.
use Rattle.std.specs.Prelude.{◌≡◌, List, []}
use Rattle.lb_config.specs.ConfigViews.{BackendView}
use Rattle.lb_desk_backend.specs.Configured.{IsBackendOf}
use Rattle.lb_desk_model.specs.declared.event.Event.{Event}
use Rattle.lb_desk_model.specs.declared.reply.Reply.{Reply}
use Rattle.lb_desk_model.specs.Backends.{BackendParts}
use Rattle.lb_desk_step.specs.Desk.{DeskView, StandsAt, opening_desk}
use Rattle.lb_desk_step.specs.Worlds.{Answers}

-- the desk stands at the opening of the backend that the configuration is read as, and at the end of the empty log; its journal has
-- room for as many entries as the configuration says
pub record OpensAs (config : BackendView) (desk : DeskView) : Type 0 where
  pub backend : BackendParts
  pub read_as : IsBackendOf config backend
  pub opening : desk ≡ opening_desk backend config.journal
  pub stands : StandsAt backend [] desk

-- the backend that the configuration is read as, from its opening on, gives these replies to the events, one to each
pub record AnswersAs (config : BackendView) (events : List Event) (replies : List Reply) : Type 0 where
  pub backend : BackendParts
  pub read_as : IsBackendOf config backend
  pub answers : Answers backend events replies
