-- Sockets that the process was handed over (sd_listen_fds(3)), and the doors over them. Our own words. No clause of a public function
-- cites `IsAmong`, `IsWithout`, `IsKept` or `KeepsAll`.
use Rattle.std.specs.Prelude.{◌≡◌, ◌⊎◌, ℕ, List, [], ◌∷◌, ◌++◌, All, codes, decimal}
use Rattle.http_relay_listen.specs.Sockets.{socket_of}
use Rattle.lb_run_doors.specs.declared.client_door.ClientDoor.{ClientDoor}
use Rattle.lb_run_doors.specs.declared.handed_socket.HandedSocket.{HandedSocket}
use Rattle.lb_run_doors.specs.declared.fault.HandedFault.{HandedFault}
use Rattle.lb_run_doors.specs.declared.fault.HandedFault.TheVariants.{PidIsNoNumber, CountIsNoNumber, NotListening, NoBind}

-- the door's listener is over this socket, and its `bind` has the socket's address
abbrev pub IsDoorOf : HandedSocket → ClientDoor → Type 0
IsDoorOf handed door = (socket_of door.listener ≡ handed.socket) × (door.endpoint ≡ handed.endpoint)

-- one of these doors is the socket's
abbrev pub HasDoor : List ClientDoor → HandedSocket → Type 0
HasDoor [] handed = ⊥
HasDoor (door ∷ doors) handed = IsDoorOf handed door ⊎ HasDoor doors handed

-- it is one of these sockets
abbrev pub IsAmong : HandedSocket → List HandedSocket → Type 0
IsAmong handed [] = ⊥
IsAmong handed (socket ∷ sockets) = (handed ≡ socket) ⊎ IsAmong handed sockets

-- all old ones are there but for this one
abbrev pub IsWithout : HandedSocket → (old new : List HandedSocket) → Type 0
IsWithout taken old new = (socket : HandedSocket) → IsAmong socket old → (socket ≡ taken) ⊎ IsAmong socket new

-- it waits for a door, or has one
abbrev pub IsKept : List HandedSocket → List ClientDoor → HandedSocket → Type 0
IsKept waiting doors handed = IsAmong handed waiting ⊎ HasDoor doors handed

-- no socket is lost on the way from some sockets and doors to others
abbrev pub KeepsAll : (old_waiting : List HandedSocket) → (old_doors : List ClientDoor) → (waiting : List HandedSocket) → (doors : List ClientDoor) → Type 0
KeepsAll old_waiting old_doors waiting doors = (socket : HandedSocket) → IsKept old_waiting old_doors socket → IsKept waiting doors socket

-- each of these sockets has a door
abbrev pub AllHaveDoors : List HandedSocket → List ClientDoor → Type 0
AllHaveDoors sockets doors = All (HasDoor doors) sockets

abbrev pub descriptor_text : ℕ → List ℕ
descriptor_text number = codes "descriptor " ++ decimal number

abbrev pub not_listening_line : ℕ → List ℕ
not_listening_line number = descriptor_text number ++ codes " was handed over, and is no listening IPv4 stream socket\n"

abbrev pub no_bind_line : (socket binds : List ℕ) → List ℕ
no_bind_line socket binds = codes "socket " ++ socket ++ codes " was handed over, and no bind takes it" ++ binds ++ codes "\n"

-- what is wrong with the sockets, as standard error says it
abbrev pub handed_line : HandedFault → List ℕ
handed_line PidIsNoNumber = codes "LISTEN_PID is not the number of a process\n"
handed_line CountIsNoNumber = codes "LISTEN_FDS is not a number of sockets\n"
handed_line (NotListening number) = not_listening_line number
handed_line (NoBind socket binds) = no_bind_line socket.items binds.items
