-- What is known of calls: the entries that they add, how many were refused, and records that may be lost. Our own words.
use Rattle.std.specs.Prelude.{◌≡◌, ℕ, ◌+◌, ◌-◌, ◌^◌, min, ⊤, List, ◌++◌, Option, Some, None, Result, Ok, Err}
use Rattle.lb_desk_model.specs.declared.entry.Entry.{Entry}
use Rattle.lb_desk_model.specs.declared.event.Event.{Event}
use Rattle.lb_desk_model.specs.declared.reply.Reply.{Reply}
use Rattle.lb_desk_ports.specs.declared.refused.Refused.{Refused}
use Rattle.lb_desk_ports.specs.declared.refused.Refused.TheVariants.{Memory, Worn}

-- an event with its reply
abbrev pub entry : Event → Reply → Entry
entry event reply = record { event = event; reply = reply }

-- one more, up to 2^64 - 1
abbrev pub counted : ℕ → ℕ
counted count = min (count + 1) (2 ^ 64 - 1)

-- the count of refusals after a call: one more where it was refused
abbrev pub after_call : {A : Type 0} → Result A Refused → ℕ → ℕ
after_call (Ok answer) count = count
after_call (Err refused) count = counted count

-- A record has grown by these. It may be lost, and then stays so; where it isn't lost now, it wasn't before.
abbrev pub Grows : {A : Type 0} → Option (List A) → Option (List A) → List A → Type 0
Grows before None more = ⊤
Grows None (Some after) more = ⊥
Grows (Some before) (Some after) more = after ≡ before ++ more

-- the number of a refusal in answers to operators
abbrev pub refused_number : Refused → Option ℕ
refused_number Memory = None
refused_number Worn = Some 81
