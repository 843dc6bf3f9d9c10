-- Which replies answer the opening and the end of a connection. No public clause cites this module.
use Rattle.std.specs.Prelude.{Bool, true, false, ⊤}
use Rattle.lb_desk_model.specs.declared.reply.Refusal.TheVariants.{Full, NotServing, NotOpen}
use Rattle.lb_desk_model.specs.declared.reply.Reply.{Reply}
use Rattle.lb_desk_model.specs.declared.reply.Reply.TheVariants.{Opened, Closed, Refused}
use Rattle.lb_desk_ports.specs.declared.replies.Opening.{Opening}
use Rattle.lb_desk_ports.specs.declared.replies.Opening.TheVariants as opening

abbrev pub answers_open : Reply → Bool
answers_open Opened = true
answers_open (Refused Full) = true
answers_open (Refused NotServing) = true
answers_open reply = false

abbrev pub answers_close : Reply → Bool
answers_close Closed = true
answers_close (Refused NotOpen) = true
answers_close reply = false

-- a connection is open, and of its slot this holds; else nothing is said
abbrev pub IfOpen : {S : Type 0} → Opening S → (S → Type 0) → Type 0
IfOpen (opening.Opened slot) holds = holds slot
IfOpen opening.Full holds = ⊤
IfOpen opening.NotServing holds = ⊤
