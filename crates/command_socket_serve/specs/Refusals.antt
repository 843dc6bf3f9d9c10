-- What an operator is answered where a call was refused.
use Rattle.std.specs.Prelude.{ℕ, List, codes}
use Rattle.lb_desk_ports.specs.declared.refused.Refused.{Refused}
use Rattle.lb_desk_ports.specs.declared.refused.Refused.TheVariants.{Memory, Worn}

-- the line of a call that was refused
abbrev pub refused_line : Refused → List ℕ
refused_line Memory = codes "out of memory\n"
refused_line Worn = codes "81 Worn\n"
