-- What a core tells of a request, and of the reply to it. No public clause cites this module.
use Rattle.std.specs.Prelude.{◌≡◌, ℕ, ◌<◌, Bool, true, false, Option, Some, IsSome, List, length, All, if◌then◌else◌}
use Rattle.pin_set.specs.declared.pin.PinId.{PinId}
use Rattle.pin_set.specs.declared.pin_key.PinKey.{PinKey}
use Rattle.pin_set.specs.Assignments.{is_at}
use Rattle.pin_set.specs.Pins.{honoured}
use Rattle.server_state.specs.Farm.{serving, usable}
use Rattle.lb_desk_model.specs.declared.event.Request.{Request}
use Rattle.lb_desk_model.specs.declared.reply.Reply.{Reply}
use Rattle.lb_desk_model.specs.declared.reply.PinnedAs.TheVariants as Put
use Rattle.lb_desk_model.specs.declared.reply.Reply.TheVariants.{Served, Pinned, Cleared}
use Rattle.lb_desk_model.specs.declared.reply.ServedAs.TheVariants.{Moved, Made}
use Rattle.lb_desk_model.specs.Seen.{Seen}
use Rattle.lb_desk_model.specs.Serves.{want_of}

-- the request with this key
abbrev pub with_key : Request → Option PinKey → Request
with_key request key = record request { key = key }

-- the request with the key of this name
abbrev pub keyed : Request → PinId → Request
keyed request name = with_key request (Some name.key)

-- every server that the rules name exists
abbrev pub AreKnown : Seen → List ℕ → Type 0
AreKnown shown rules = All (λ server. server < length shown.names) rules

-- a pin of the request with that key has this name, and the servers that its rules name exist
pub record IsNamed (shown : Seen) (request : Request) (name : PinId) : Type 0 where
  pub known : AreKnown shown request.rules
  pub table : IsSome shown.table
  pub want : name.want ≡ want_of request

-- the server would keep a pin that wants these servers
abbrev pub honours : Seen → ℕ → ℕ → Bool
honours shown want server = honoured (Some server) want (usable shown.farm) (serving shown.farm server)

-- 1 where the place is this server, else 0
abbrev pub one_at : Option ℕ → ℕ → ℕ
one_at place server = if is_at server place then 1 else 0

-- the reply tells that a pin is at another place than before, wasn't there, or is gone
abbrev pub moves_pin : Reply → Bool
moves_pin (Served server Moved) = true
moves_pin (Served server Made) = true
moves_pin (Pinned Put.Moved) = true
moves_pin (Pinned Put.Made) = true
moves_pin Cleared = true
moves_pin reply = false
