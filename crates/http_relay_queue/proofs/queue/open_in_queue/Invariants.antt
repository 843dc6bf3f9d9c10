use Rattle.std.proofs.Common.{◌≡◌, ℕ, ◌++◌, List}
use Rattle.lb_desk_model.specs.declared.entry.Entry.{Entry}
use Rattle.lb_desk_ports.specs.Calls.{Grows, after_call}
use Rattle.http_relay_queue.specs.Asks.{Asks, IfOpened}
use Rattle.http_relay_queue.proofs.Waits.{questions_left}
use Rattle.http_relay_queue.proofs.queue.open_in_queue.Given as goal

-- with what it has added to entries, moments and pauses, the wait stands so
abbrev pub invariant-loop-asking : goal.invariant-loop-asking
invariant-loop-asking g l = record {
  entries : List Entry;
  told : List ℕ;
  pauses : List ℕ;
  grown : g.P.Port.entries l.port ≡ g.P.Port.entries l.fn.port ++ entries;
  tells : Grows (g.K.Clock.told l.fn.clock) (g.K.Clock.told l.clock) told;
  paused : Grows (g.K.Clock.pauses l.fn.clock) (g.K.Clock.pauses l.clock) pauses;
  asks : Asks l.limit l.server entries told pauses l.asking;
  slot : IfOpened l.asking (λ slot. g.P.Port.server_of slot ≡ l.server);
  refusals : g.P.Port.refusals l.port ≡ after_call l.asking (g.P.Port.refusals l.fn.port);
}

abbrev pub decreases-loop-asking : goal.decreases-loop-asking
decreases-loop-asking g l = questions_left l.limit l.asking
