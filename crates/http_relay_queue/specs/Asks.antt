-- Waiting for a connection to a server that is full, one question at a time. Our own words.
use Rattle.std.specs.Prelude.{◌≡◌, ℕ, ◌+◌, ◌-◌, ◌/◌, ◌^◌, ⊤, List, [], ◌∷◌, ◌++◌, length, replicate, Option, Some, None, Result, Ok, Err}
use Rattle.lb_desk_model.specs.declared.entry.Entry.{Entry}
use Rattle.lb_desk_ports.specs.declared.refused.Refused.{Refused}
use Rattle.http_relay_queue.specs.Queues.{start, GoesOn, full_entry, Queued}
use Rattle.http_relay_queue.specs.declared.asking.Asking.{Asking}
use Rattle.http_relay_queue.specs.declared.asking.Asking.TheVariants.{Full, Ended}
use Rattle.http_relay_queue.specs.declared.asking.Queueing.{Queueing}
use Rattle.http_relay_queue.specs.declared.queue.Waited.{Waited}
use Rattle.http_relay_queue.specs.declared.queue.Waited.TheVariants.{Opened, NotServing, Over}

-- The server was full at each of these moments, and at none of them the wait was over. After each but the last a pause was made, and
-- one is due after the last
pub record IsQueueing (limit : Option ℕ) (server : ℕ) (entries : List Entry) (told pauses : List ℕ) (queueing : Queueing) : Type 0 where
  pub starts : queueing.start ≡ start told
  pub goes_on : GoesOn limit queueing.start 0 told
  pub count : queueing.pauses ≡ length told
  pub due : pauses ++ 50 ∷ [] ≡ replicate (length told) 50
  pub asked : entries ≡ replicate (length told) (full_entry server)

-- a wait that has added these entries, moments and pauses has ended with this answer
abbrev pub HasEnded : {S : Type 0} → Option ℕ → ℕ → List Entry → List ℕ → List ℕ → Result (Waited S) Refused → Type 0
HasEnded limit server entries told pauses answer = Queued limit server answer [] entries (Some []) (Some told) (Some []) (Some pauses)

-- how a wait stands that has added these entries, moments and pauses
abbrev pub Asks : {S : Type 0} → Option ℕ → ℕ → List Entry → List ℕ → List ℕ → Result (Asking S) Refused → Type 0
Asks limit server entries told pauses (Ok (Full queueing)) = IsQueueing limit server entries told pauses queueing
Asks limit server entries told pauses (Ok (Ended answer)) = HasEnded limit server entries told pauses (Ok answer)
Asks {S = S} limit server entries told pauses (Err refused) = HasEnded {S = S} limit server entries told pauses (Err refused)

-- a connection was opened, and of its slot this holds; else nothing is said
abbrev pub IfOpened : {S : Type 0} → Result (Asking S) Refused → (S → Type 0) → Type 0
IfOpened (Ok (Ended (Opened slot))) holds = holds slot
IfOpened (Ok (Ended NotServing)) holds = ⊤
IfOpened (Ok (Ended Over)) holds = ⊤
IfOpened (Ok (Full queueing)) holds = ⊤
IfOpened (Err refused) holds = ⊤

-- the wait goes on, and of it this holds; else nothing is said
abbrev pub IfFull : {S : Type 0} → Result (Asking S) Refused → (Queueing → Type 0) → Type 0
IfFull (Ok (Full queueing)) holds = holds queueing
IfFull (Ok (Ended answer)) holds = ⊤
IfFull (Err refused) holds = ⊤

-- the most pauses of a wait
abbrev pub most_pauses : Option ℕ → ℕ
most_pauses (Some limit) = (limit + 49) / 50
most_pauses None = 2 ^ 62

-- how many pauses of the wait are left at most, after the one that is due
abbrev pub pauses_left : Option ℕ → Queueing → ℕ
pauses_left limit queueing = most_pauses limit - queueing.pauses
