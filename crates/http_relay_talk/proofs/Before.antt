-- A connection to a server, and how it stood before it took the request's opening.
use Rattle.std.proofs.Common.{◌≡◌, ℕ, ◌≤◌, List, [], length, take, Option, None, Some, Err, refl, subst, sym, ◌∙◌, ap}
use Rattle.std.specs.Prelude.{IfSome}
use Rattle.std.specs.Option.{option_map}
use Rattle.std.specs.Io.KnownBytes.{append_known}
use Rattle.http_relay_dial.specs.Dials.{Talk, HasTaken, IsFresh}
use Rattle.http_relay_exchange.specs.Requests.{OutgoingView, opening}
use Rattle.http_relay_exchange.specs.Exchanges.{Began, Sent, wrote}
use Rattle.http_relay_exchange.specs.declared.fault.SendFault.{SendFault}
use Rattle.http_relay_exchange.specs.declared.fault.SendFault.TheVariants.{Continue, Head, Body}
use Rattle.http_relay_wire.specs.Wires.{Reading}

-- the connection, and nothing written to it
abbrev pub untouched : Talk → Talk
untouched talk = record talk { written = option_map (λ (all : List ℕ). []) talk.written }

unwritten_before : (written : Option (List ℕ)) → IfSome (option_map (λ (all : List ℕ). []) written) (λ (bytes : List ℕ). bytes ≡ [])
unwritten_before None = tt
unwritten_before (Some xs) = refl

took : (written : Option (List ℕ)) (taken : List ℕ) → IfSome written (λ (all : List ℕ). all ≡ taken)
    → written ≡ append_known (option_map (λ (all : List ℕ). []) written) taken
took None taken known = refl
took (Some xs) taken same = ap Some same

-- it was fresh then
pub fresh_before : (bytes : List ℕ) (count : ℕ) (talk : Talk) → HasTaken bytes count talk → IsFresh (untouched talk)
fresh_before bytes count talk known = record {
  unwritten = unwritten_before talk.written;
  lasts = known.lasts;
  unfailed = known.unfailed;
}

-- and has begun the request since
pub began : (request : OutgoingView) (bytes : List ℕ) (count : ℕ) (talk : Talk) → bytes ≡ opening request → HasTaken bytes count talk
    → Began request count (untouched talk) talk
began request bytes count talk is known = (
  subst (λ xs. count ≤ length xs) is known.within,
  ap (λ w. record talk { written = w }) (took talk.written (take count bytes) known.written)
      ∙ ap (λ xs. wrote (untouched talk) (take count xs)) is,
)

-- nothing is read of the server while a request is sent to it that couldn't be sent to its end
pub reading_kept : (request : OutgoingView) (client after server sent : Talk) (fault : SendFault) → Sent request client after server sent (Err fault)
    → server.reading.unread ≡ sent.reading.unread
reading_kept request client after server sent (Continue fault) x = ap (λ (t : Talk). t.reading.unread) (sym x.1)
reading_kept request client after server sent (Head fault) x = ap (λ (t : Talk). t.reading.unread) (sym x.1.2)
reading_kept request client after server sent (Body fault) x = ap (λ (r : Reading). r.unread) (sym x.server_reading)
