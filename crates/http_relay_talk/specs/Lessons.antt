-- What the answer to a request teaches its backend: where the session is whose key the server gives its client. HAProxy Configuration
-- Manual 2.8, `stick store-response`. That a `stick on` of a cookie learns without it, and that the request's head has named the wanted
-- servers and the cost, are our own.
use Rattle.std.specs.Prelude.{◌≡◌, ◌⊎◌, ℕ, List, [], ◌++◌, Option, Some, None, Result}
use Rattle.std.specs.Io.KnownBytes.{prepend_known}
use Rattle.lb_acl.specs.declared.key.StickOn.{StickOn}
use Rattle.set_cookie.specs.TaughtKeys.{IsTaughtKey}
use Rattle.http_relay_wire.specs.Wires.{Reading}
use Rattle.lb_desk_model.specs.declared.entry.Entry.{Entry}
use Rattle.lb_desk_model.specs.declared.event.SetPin.{SetPin}
use Rattle.lb_desk_ports.specs.Ports.{pinning_entries}
use Rattle.lb_desk_ports.specs.declared.refused.Refused.{Refused}
use Rattle.lb_desk_ports.specs.declared.replies.Pinning.{Pinning}
use Rattle.http_relay_talk.specs.Shares.{after_refusals, refusals_of}

-- what the answer to a request may teach
pub record LessonView : Type 0 where
  -- how keys are taken from answers
  pub pattern : StickOn
  -- the servers that the request wants
  pub want : ℕ
  pub cost : ℕ
  -- when the request came
  pub moment : ℕ

-- the pin that this answer of the server teaches
pub record IsTaughtPin (lesson : LessonView) (server : ℕ) (answer : List ℕ) (pin : SetPin) : Type 0 where
  pub key : IsTaughtKey lesson.pattern answer (Some pin.name.key)
  pub want : pin.name.want ≡ lesson.want
  pub cost : pin.cost ≡ lesson.cost
  pub stands : pin.server ≡ server
  pub moment : pin.moment ≡ lesson.moment

-- what a lesson did at the backend's port: its entries, and the calls that were refused
pub record Taught : Type 0 where
  pub entries : List Entry
  pub refusals : List Refused

-- nothing was done
abbrev pub untaught : Taught
untaught = record { entries = []; refusals = [] }

-- what was done first, and then
abbrev pub both : Taught → Taught → Taught
both first then = record { entries = first.entries ++ then.entries; refusals = first.refusals ++ then.refusals }

-- between two moments this was done at a port, and nothing else
abbrev pub Makes : Taught → List Entry → List Entry → ℕ → ℕ → Type 0
Makes taught old new refusals refused = (new ≡ old ++ taught.entries) × (refused ≡ after_refusals taught.refusals refusals)

-- one call set the pin that the first bytes of the answer teach. Bytes that follow teach no other (`TaughtStays` in `set_cookie`)
pub record SetsTaughtPin (lesson : LessonView) (server : ℕ) (answer : List ℕ) (taught : Taught) : Type 0 where
  pub first : List ℕ
  pub rest : List ℕ
  pub begins : answer ≡ first ++ rest
  pub pin : SetPin
  pub is : IsTaughtPin lesson server first pin
  pub reply : Result Pinning Refused
  pub entries : taught.entries ≡ pinning_entries pin reply
  pub refusals : taught.refusals ≡ refusals_of reply

-- What was learned of so much of a server's answer: nothing, or one pin was set, which it teaches. Without memory for a key nothing is
-- learned
abbrev pub Learns : Option LessonView → ℕ → List ℕ → Taught → Type 0
Learns None server answer taught = taught ≡ untaught
Learns (Some lesson) server answer taught = (taught ≡ untaught) ⊎ SetsTaughtPin lesson server answer taught

-- between two moments so much was read of a server, of which this was learned
pub record Teaches (old new : Reading) (Learned : List ℕ → Type 0) : Type 0 where
  pub text : List ℕ
  pub read : old.unread ≡ prepend_known text new.unread
  pub learned : Learned text
