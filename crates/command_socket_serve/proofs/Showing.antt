-- A desk that is only looked at, or not even that.
use Rattle.std.proofs.Common.{List, [], ◌++◌, refl, sym, append-nil}
use Rattle.lb_desk_model.specs.declared.entry.Entry.{Entry}
use Rattle.lb_desk_steer.specs.Steering.{KeepsSights}
use Rattle.command_socket_serve.specs.Desks.{DeskSeen, LooksAt}

pub keeps_all : (sights : List (List Entry)) → KeepsSights sights sights
keeps_all sights = ([], sym (append-nil sights))

pub not_asked : (desk : DeskSeen) → LooksAt desk desk
not_asked desk = record { entries = refl; planned_now = refl; backend = refl; sights = keeps_all desk.sights }
