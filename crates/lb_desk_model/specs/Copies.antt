-- Which copies can't fail: those that take no memory and no owner more of anything.
use Rattle.std.specs.Prelude.{⊤}
use Rattle.lb_desk_model.specs.declared.event.Event.{Event}
use Rattle.lb_desk_model.specs.declared.event.Event.TheVariants.{Serve, Set, Clear, Install}
use Rattle.lb_desk_model.specs.declared.reply.Reply.{Reply}
use Rattle.lb_desk_model.specs.declared.reply.Reply.TheVariants.{Sheet}

-- the event holds no request and no pin's name, which may hold a key, and no plan, which is shared
abbrev pub IsPlainEvent : Event → Type 0
IsPlainEvent (Serve request) = ⊥
IsPlainEvent (Set set) = ⊥
IsPlainEvent (Clear name) = ⊥
IsPlainEvent (Install plan) = ⊥
IsPlainEvent event = ⊤

-- the reply holds no sheet, which is shared
abbrev pub IsPlainReply : Reply → Type 0
IsPlainReply (Sheet sheet) = ⊥
IsPlainReply reply = ⊤
