-- The numbers of refusals in answers to operators.
use Rattle.std.specs.Prelude.{ℕ}
use Rattle.lb_desk_model.specs.declared.reply.Refusal.{Refusal}
use Rattle.lb_desk_model.specs.declared.reply.Refusal.TheVariants.{NoSuchServer, OutOfRange, NotChecked, Full, NotServing, NotOpen, TableFull, Stale, Bad, NoServer}

abbrev pub number_of : Refusal → ℕ
number_of NoSuchServer = 10
number_of OutOfRange = 11
number_of NotChecked = 12
number_of Full = 30
number_of NotServing = 31
number_of NotOpen = 32
number_of TableFull = 60
number_of Stale = 70
number_of (Bad fault) = 71
number_of NoServer = 80
