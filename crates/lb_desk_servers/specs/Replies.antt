-- The reply that tells what became of a call at a farm or a book. No public clause cites this module.
use Rattle.std.specs.Prelude.{Result, Ok, Err}
use Rattle.server_state.specs.declared.change.ChangeFault.{ChangeFault}
use Rattle.server_state.specs.declared.checked.Checked.{Checked}
use Rattle.capacity_book.specs.declared.fault.OpenFault.{OpenFault}
use Rattle.capacity_book.specs.declared.fault.CloseFault.{CloseFault}
use Rattle.lb_desk_model.specs.declared.reply.Refusal.{Refusal}
use Rattle.lb_desk_model.specs.declared.reply.Reply.{Reply}
use Rattle.lb_desk_model.specs.declared.reply.Reply.TheVariants.{Done, Opened, Closed, Refused}
use Rattle.lb_desk_model.specs.Servers.{refusal_of}

abbrev pub reply_of_check : Result Checked ChangeFault → Reply
reply_of_check (Ok checked) = Reply.Checked checked
reply_of_check (Err fault) = Refused (refusal_of fault)

abbrev pub reply_of_change : Result (Unit {0}) ChangeFault → Reply
reply_of_change (Ok made) = Done
reply_of_change (Err fault) = Refused (refusal_of fault)

abbrev pub open_reply : Result (Unit {0}) OpenFault → Reply
open_reply (Ok opened) = Opened
open_reply (Err OpenFault.Full) = Refused Refusal.Full
open_reply (Err OpenFault.NotServing) = Refused Refusal.NotServing

abbrev pub close_reply : Result (Unit {0}) CloseFault → Reply
close_reply (Ok closed) = Closed
close_reply (Err CloseFault.NotOpen) = Refused Refusal.NotOpen
