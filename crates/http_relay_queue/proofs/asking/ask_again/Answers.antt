use Rattle.std.proofs.Common.{◌≡◌, ◌-◌, ◌++◌, [], ◌∷◌, false, Ok, refl, sym, subst, ap, ◌∙◌, arith}
use Rattle.http_relay_queue.specs.Queues.{is_over, full_entry, last_entries}
use Rattle.http_relay_queue.specs.declared.queue.Waited.TheVariants.{Opened, NotServing}
use Rattle.lb_desk_ports.specs.Calls.{Grows}
use Rattle.lb_desk_ports.specs.Ports.{opening_entries}
use Rattle.http_relay_queue.proofs.Waits.{grows_none, answered, again}
use Rattle.http_relay_queue.proofs.asking.ask_again.Goals as goal

pub returns-in-Opened-clause-asks : goal.returns-in-Opened-clause-asks
returns-in-Opened-clause-asks g c entries told pauses q = (
  last_entries c.args.server (Ok (Opened c.in-Opened.slot)),
  [],
  c.in-Ok.ensures.entries ∙ ap (λ o. g.P.Port.entries c.args.port.now ++ opening_entries c.args.server (Ok o)) c.in-Opened.is,
  grows_none (g.K.Clock.told c.args.clock.now),
  answered c.args.limit c.args.server entries told pauses c.args.queueing (Ok (Opened c.in-Opened.slot)) q refl,
)

pub returns-in-NotServing-clause-asks : goal.returns-in-NotServing-clause-asks
returns-in-NotServing-clause-asks g c entries told pauses q = (
  last_entries {S = g.row.P-Slot.Denot} c.args.server (Ok NotServing),
  [],
  c.in-Ok.ensures.entries ∙ ap (λ o. g.P.Port.entries c.args.port.now ++ opening_entries c.args.server (Ok o)) c.in-NotServing.is,
  grows_none (g.K.Clock.told c.args.clock.now),
  answered {S = g.row.P-Slot.Denot} c.args.limit c.args.server entries told pauses c.args.queueing (Ok NotServing) q refl,
)

pub returns-else-is_over-clause-asks : goal.returns-else-is_over-clause-asks
returns-else-is_over-clause-asks g c entries told pauses q =
    let now = c.as_millis-now.result in
    let under : is_over c.args.limit c.args.queueing.pauses (now - c.args.queueing.start) ≡ false = grind arith in (
      full_entry c.args.server ∷ [],
      now ∷ [],
      c.in-Ok.ensures.entries ∙ ap (λ o. g.P.Port.entries c.args.port.now ++ opening_entries c.args.server (Ok o)) c.in-Full.is,
      subst (λ m. Grows (g.K.Clock.told c.args.clock.now) (g.K.Clock.told c.now.new.self) (m ∷ [])) (sym c.as_millis-now.ensures) c.now.ensures.told,
      again c.args.limit c.args.server now entries told pauses c.args.queueing q under,
    )
