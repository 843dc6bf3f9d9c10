-- A desk's replies as the answers of ports and movers. Replies that never come have some answer. No public clause cites this
-- module.
use Rattle.lb_desk_model.specs.declared.event.Event.{Event}
use Rattle.lb_desk_model.specs.declared.reply.Reply.{Reply}
use Rattle.lb_desk_model.specs.declared.reply.Reply.TheVariants as reply
use Rattle.lb_desk_model.specs.declared.reply.Refusal.TheVariants as refusal
use Rattle.lb_desk_model.specs.States.{State}
use Rattle.lb_desk_model.specs.Steps.{Step}
use Rattle.lb_desk_ports.specs.declared.replies.Asked.{Asked}
use Rattle.lb_desk_ports.specs.declared.replies.Asked.TheVariants as asked
use Rattle.lb_desk_ports.specs.declared.replies.Pinning.{Pinning}
use Rattle.lb_desk_ports.specs.declared.replies.Pinning.TheVariants as pinning
use Rattle.lb_desk_ports.specs.declared.replies.Filed.{Filed}
use Rattle.lb_desk_ports.specs.declared.replies.Filed.TheVariants as filed
use Rattle.lb_desk_ports.specs.declared.replies.Installing.{Installing}
use Rattle.lb_desk_ports.specs.declared.replies.Installing.TheVariants as installing

-- some state takes the event with this reply
abbrev pub Answers : Event → Reply → Type 0
Answers event reply = (old : State) × (new : State) × Step old event reply new

abbrev pub asked_of : Reply → Asked
asked_of (reply.Served server how) = asked.Served server how
asked_of (reply.Refused refusal.NoSuchServer) = asked.NoSuchServer
asked_of other = asked.NoServer

abbrev pub pinning_of : Reply → Pinning
pinning_of (reply.Pinned how) = pinning.Pinned how
pinning_of reply.NoTable = pinning.NoTable
pinning_of (reply.Refused refusal.TableFull) = pinning.TableFull
pinning_of other = pinning.NoSuchServer

abbrev pub filed_of : Reply → Filed
filed_of (reply.Checked checked) = filed.Checked checked
filed_of (reply.Refused refusal.NotChecked) = filed.NotChecked
filed_of other = filed.NoSuchServer

abbrev pub installing_of : Reply → Installing
installing_of (reply.Installed score) = installing.Installed score
installing_of other = installing.Stale
