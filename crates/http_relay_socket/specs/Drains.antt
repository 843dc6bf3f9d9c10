-- The end of a connection: RFC 9112, section 9.6. Our own: how much is read before it is closed.
use Rattle.std.specs.Prelude.{◌≡◌, ◌≤◌, ℕ, true, List, length}
use Rattle.std.specs.Io.KnownBytes.{prepend_known, IsAtEnd}
use Rattle.http_relay_wire.specs.Wires.{Reading}
use Rattle.http_relay_wire.specs.Faults.{after_read_fault}
use Rattle.http_relay_wire.specs.declared.fault.FaultCounts.{FaultCounts}
use Rattle.http_relay_socket.specs.declared.draining.Drained.{Drained}
use Rattle.http_relay_socket.specs.declared.draining.Drained.TheVariants.{Ended, Full, Failed}
use Rattle.http_relay_socket.specs.declared.draining.TheConstants.{MOST_DRAINED}

-- what the answer says of the text that was read: the peer has ended behind it, it is as long as it may be, or a read failed behind it
abbrev pub EndsSo : List ℕ → Reading → FaultCounts → FaultCounts → Drained → Type 0
EndsSo text reading before after Ended = IsAtEnd reading.unread × (reading.ended ≡ true) × (after ≡ before)
EndsSo text reading before after Full = (length text ≡ MOST_DRAINED) × (after ≡ before)
EndsSo text reading before after (Failed fault) = after ≡ after_read_fault fault before

-- what still came was read, no more than there may be, and so it ended
pub record DrainedOf (old new : Reading) (before after : FaultCounts) (answer : Drained) : Type 0 where
  pub text : List ℕ
  pub read : old.unread ≡ prepend_known text new.unread
  pub within : length text ≤ MOST_DRAINED
  pub ends : EndsSo text new before after answer
