-- Waiting for a connection to a server that is full: HAProxy Configuration Manual 2.8, `timeout queue` and, for a server,
-- `maxconn`. Our own: who waits asks anew every 50 ms, and a limit of 0 asks once.
use Rattle.std.specs.Prelude.{◌≡◌, ℕ, ◌+◌, ◌-◌, ◌/◌, ◌^◌, nat_le, ◌||◌, Bool, true, false, ⊤, List, [], ◌∷◌, ◌++◌, length, replicate, Option, Some, None, Result, Ok, Err}
use Rattle.lb_desk_model.specs.declared.entry.Entry.{Entry}
use Rattle.lb_desk_model.specs.declared.event.Event.TheVariants.{Open}
use Rattle.lb_desk_model.specs.declared.reply.Refusal.TheVariants as refusal
use Rattle.lb_desk_model.specs.declared.reply.Reply.TheVariants as reply
use Rattle.lb_desk_ports.specs.Calls.{entry, Grows}
use Rattle.lb_desk_ports.specs.declared.refused.Refused.{Refused}
use Rattle.http_relay_queue.specs.declared.queue.Waited.{Waited}
use Rattle.http_relay_queue.specs.declared.queue.Waited.TheVariants.{Opened, NotServing, Over}

-- The wait is over after so many pauses, when so many milliseconds have passed: the limit has passed, or its spans of 50 ms,
-- rounded up, have. Without a limit 2^62 pauses are the most
abbrev pub is_over : Option ℕ → ℕ → ℕ → Bool
is_over (Some limit) pauses elapsed = nat_le limit elapsed || nat_le ((limit + 49) / 50) pauses
is_over None pauses elapsed = nat_le (2 ^ 62) pauses

-- the first of the moments
abbrev pub start : List ℕ → ℕ
start [] = 0
start (first ∷ later) = first

-- At each of these moments, before the first of which so many pauses were made, the wait that began at `first` was not over
abbrev pub GoesOn : Option ℕ → ℕ → ℕ → List ℕ → Type 0
GoesOn limit first pauses [] = ⊤
GoesOn limit first pauses (now ∷ later) =
    (is_over limit pauses (now - first) ≡ false) × GoesOn limit first (pauses + 1) later

-- The moments that were told, one each time the server was full: a pause followed each, but the last of a wait that was over
abbrev pub Ends : {S : Type 0} → Option ℕ → List ℕ → List ℕ → Result (Waited S) Refused → Type 0
Ends limit waits told (Ok Over) =
    (now : ℕ) × (told ≡ waits ++ now ∷ []) × (is_over limit (length waits) (now - start told) ≡ true)
Ends limit waits told (Ok (Opened slot)) = told ≡ waits
Ends limit waits told (Ok NotServing) = told ≡ waits
Ends limit waits told (Err refused) = told ≡ waits

-- the entry of a request for a connection to a server that is full
abbrev pub full_entry : ℕ → Entry
full_entry server = entry (Open server) (reply.Refused refusal.Full)

-- the entries of the last request for a connection, where it wasn't answered that the server is full
abbrev pub last_entries : {S : Type 0} → ℕ → Result (Waited S) Refused → List Entry
last_entries server (Ok (Opened slot)) = entry (Open server) reply.Opened ∷ []
last_entries server (Ok NotServing) = entry (Open server) (reply.Refused refusal.NotServing) ∷ []
last_entries server (Ok Over) = []
last_entries server (Err refused) = []

-- What a wait for a connection to the server did to a port's entries and to a clock's records of its moments and pauses
pub record Queued {S : Type 0} (limit : Option ℕ) (server : ℕ) (answer : Result (Waited S) Refused)
    (before after : List Entry) (told_before told_after paused_before paused_after : Option (List ℕ)) : Type 0 where
  -- the moments when the server was full, and those of them that a pause followed
  pub told : List ℕ
  pub waits : List ℕ
  pub goes_on : GoesOn limit (start told) 0 waits
  pub ends : Ends limit waits told answer
  pub asked : after ≡ before ++ replicate (length told) (full_entry server) ++ last_entries server answer
  pub tells : Grows told_before told_after told
  pub pauses : Grows paused_before paused_after (replicate (length waits) 50)

-- a connection was opened, and of its slot this holds; else nothing is said
abbrev pub IfOpened : {S : Type 0} → Result (Waited S) Refused → (S → Type 0) → Type 0
IfOpened (Ok (Opened slot)) holds = holds slot
IfOpened (Ok NotServing) holds = ⊤
IfOpened (Ok Over) holds = ⊤
IfOpened (Err refused) holds = ⊤
