-- Sockets that wait for a door, and those that have one.
use Rattle.std.proofs.Common.{◌≡◌, ◌<◌, ◌∙◌, ◌⊎◌, inl, inr, ℕ, zero, suc, List, [], ◌∷◌, ◌++◌, length, take, drop, slice_index_or, All, Option, Some, None, IfSome, IfNone, sym, subst, refl, arith}
use Rattle.http_relay_listen.specs.Sockets.{socket_of}
use Rattle.lb_config_arguments.specs.declared.address.Endpoint.{Endpoint}
use Rattle.lb_run_doors.specs.declared.client_door.ClientDoor.{ClientDoor}
use Rattle.lb_run_doors.specs.declared.handed_socket.HandedSocket.{HandedSocket}
use Rattle.lb_run_doors.specs.Handed.{AllHaveDoors, HasDoor, IsAmong, IsDoorOf, IsKept, IsWithout, KeepsAll}

-- with one door more
has_door_more : (doors : List ClientDoor) (door : ClientDoor) (socket : HandedSocket) → HasDoor doors socket → HasDoor (doors ++ door ∷ []) socket
has_door_more [] door socket has = absurd has
has_door_more (d ∷ ds) door socket (inl here) = inl here
has_door_more (d ∷ ds) door socket (inr later) = inr (has_door_more ds door socket later)

-- the last door is the socket's
has_door_last : (doors : List ClientDoor) (door : ClientDoor) (socket : HandedSocket) → IsDoorOf socket door → HasDoor (doors ++ door ∷ []) socket
has_door_last [] door socket is = inl is
has_door_last (d ∷ ds) door socket is = inr (has_door_last ds door socket is)

-- one more is kept as it was
kept_later : (sockets : List HandedSocket) (s taken socket : HandedSocket) → (socket ≡ taken) ⊎ IsAmong socket sockets
    → (socket ≡ taken) ⊎ IsAmong socket (s ∷ sockets)
kept_later sockets s taken socket (inl same) = inl same
kept_later sockets s taken socket (inr among) = inr (inr among)

-- the socket at a place is taken out
pub among_without : (sockets : List HandedSocket) (k : ℕ) (taken : HandedSocket) → k < length sockets
    → taken ≡ slice_index_or sockets k taken → IsWithout taken sockets (take k sockets ++ drop (suc k) sockets)
among_without [] k taken within is socket among = absurd among
among_without (s ∷ ss) zero taken within is socket (inl here) = inl (here ∙ sym is)
among_without (s ∷ ss) zero taken within is socket (inr later) = inr later
among_without (s ∷ ss) (suc k) taken within is socket (inl here) = inr (inl here)
among_without (s ∷ ss) (suc k) taken within is socket (inr later) =
    kept_later (take k ss ++ drop (suc k) ss) s taken socket (among_without ss k taken (omega arith) is socket later)

-- a door is made that is nobody's: all are kept
pub keeps_all_none : (waiting waiting' : List HandedSocket) (doors doors' : List ClientDoor) (door : ClientDoor) → waiting' ≡ waiting
    → doors' ≡ doors ++ door ∷ [] → KeepsAll waiting doors waiting' doors'
keeps_all_none waiting waiting' doors doors' door same made socket (inl among) = inl (subst (λ l. IsAmong socket l) (sym same) among)
keeps_all_none waiting waiting' doors doors' door same made socket (inr has) =
    inr (subst (λ l. HasDoor l socket) (sym made) (has_door_more doors door socket has))

-- the one that was taken has the door that is made
placed : (waiting : List HandedSocket) (doors : List ClientDoor) (door : ClientDoor) (taken socket : HandedSocket) → IsDoorOf taken door
    → (socket ≡ taken) ⊎ IsAmong socket waiting → IsKept waiting (doors ++ door ∷ []) socket
placed waiting doors door taken socket is (inl same) =
    inr (has_door_last doors door socket (subst (λ s. IsDoorOf s door) (sym same) is))
placed waiting doors door taken socket is (inr among) = inl among

pub keeps_all_taken : (waiting waiting' : List HandedSocket) (doors doors' : List ClientDoor) (door : ClientDoor) (taken : HandedSocket)
    → IsWithout taken waiting waiting' → IsDoorOf taken door → doors' ≡ doors ++ door ∷ [] → KeepsAll waiting doors waiting' doors'
keeps_all_taken waiting waiting' doors doors' door taken others is made socket (inl among) =
    subst (λ l. IsKept waiting' l socket) (sym made) (placed waiting' doors door taken socket is (others socket among))
keeps_all_taken waiting waiting' doors doors' door taken others is made socket (inr has) =
    inr (subst (λ l. HasDoor l socket) (sym made) (has_door_more doors door socket has))

-- a door is made over the socket that was taken for it, if one was
pub keeps_all_made : (taken : Option HandedSocket) (endpoint : Endpoint) (waiting waiting' : List HandedSocket) (doors doors' : List ClientDoor)
    (door : ClientDoor) → IfSome taken (λ s. s.endpoint ≡ endpoint) → IfSome taken (λ s. IsWithout s waiting waiting')
    → IfNone taken (waiting' ≡ waiting) → IfSome taken (λ s. socket_of door.listener ≡ s.socket) → door.endpoint ≡ endpoint
    → doors' ≡ doors ++ door ∷ [] → KeepsAll waiting doors waiting' doors'
keeps_all_made None endpoint waiting waiting' doors doors' door at others none over here made =
    keeps_all_none waiting waiting' doors doors' door none made
keeps_all_made (Some s) endpoint waiting waiting' doors doors' door at others none over here made =
    keeps_all_taken waiting waiting' doors doors' door s others (over, here ∙ sym at) made

-- with nobody waiting, each has a door
kept_by_doors : (doors : List ClientDoor) (socket : HandedSocket) → IsKept [] doors socket → HasDoor doors socket
kept_by_doors doors socket (inl among) = absurd among
kept_by_doors doors socket (inr has) = has

all_of : (P : HandedSocket → Type 0) (sockets : List HandedSocket) → ((socket : HandedSocket) → IsAmong socket sockets → P socket) → All P sockets
all_of P [] each k d within = absurd (omega arith)
all_of P (s ∷ ss) each zero d within = each s (inl refl)
all_of P (s ∷ ss) each (suc k) d within = all_of P ss (λ socket among. each socket (inr among)) k d (omega arith)

empty : (sockets : List HandedSocket) → length sockets ≡ 0 → sockets ≡ []
empty [] none = refl
empty (s ∷ ss) none = absurd (omega (arith, none))

pub all_have_doors : (waiting waiting' : List HandedSocket) (doors : List ClientDoor) → KeepsAll waiting [] waiting' doors → length waiting' ≡ 0
    → AllHaveDoors waiting doors
all_have_doors waiting waiting' doors keeps nobody =
    all_of (λ socket. HasDoor doors socket) waiting (λ socket among.
    kept_by_doors doors socket (subst (λ l. IsKept l doors socket) (empty waiting' nobody) (keeps socket (inl among))))
