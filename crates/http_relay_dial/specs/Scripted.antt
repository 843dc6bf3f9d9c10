-- The records of the dialer for tests, as its contract has them.
use Rattle.std.specs.Prelude.{false, Some}
use Rattle.http_relay_dial.specs.Dials.{Dial, readable}
use Rattle.http_relay_dial.specs.declared.scripted.ScriptedDial.{ScriptedDial}

-- the dial that was recorded: what can be read is what the script says, to its end
abbrev pub dial_recorded : ScriptedDial → Dial
dial_recorded dial = record {
  endpoint = dial.endpoint;
  limits = dial.limits;
  answer = readable (λ server. record { unread = Some server.0.now; left = server.1.reads; ended = false }) dial.answer;
}
