use Rattle.std.proofs.Common.{◌++◌, ◌∷◌, [], Ok, sym, subst, ap, ◌∙◌, append_assoc}
use Rattle.lb_desk_ports.specs.Calls.{Grows, after_call}
use Rattle.http_relay_queue.specs.Asks.{Asks, IsQueueing}
use Rattle.http_relay_queue.proofs.Waits.{grows_none, grows_more}
use Rattle.http_relay_queue.proofs.queue.open_in_queue.Goals as goal

pub loop-asking-init : goal.loop-asking-init
loop-asking-init g c =
    let x = c.ask_first-asking.ensures.asks in
    record {
      entries = x.0;
      told = x.1;
      pauses = [];
      grown = x.2;
      tells = x.3;
      paused = subst (λ p. Grows (g.K.Clock.pauses c.args.clock.now) p []) (sym c.ask_first-asking.ensures.pauses) (grows_none (g.K.Clock.pauses c.args.clock.now));
      asks = x.4;
      slot = c.ask_first-asking.ensures.slot;
      refusals = c.ask_first-asking.ensures.refusals;
    }

pub loop-asking-preserved : goal.loop-asking-preserved
loop-asking-preserved g c =
    let told = g.K.Clock.told in
    let paused = g.K.Clock.pauses in
    let known = c.loop-asking.invariant in
    let is = c.in-Ok-Full.is ∙ ap (λ a. Ok a) c.in-Ok-Full.field-0-is in
    let q : IsQueueing c.args.limit c.args.server known.entries known.told known.pauses c.in-Ok-Full.queueing =
    subst (λ asking. Asks c.args.limit c.args.server known.entries known.told known.pauses asking) is known.asks in
    let x = c.ask_again-asking.ensures.asks known.entries known.told known.pauses q in
    let before = g.P.Port.entries c.args.port.now in
    record {
      entries = known.entries ++ x.0;
      told = known.told ++ x.1;
      pauses = known.pauses ++ 50 ∷ [];
      grown = x.2 ∙ ap (λ es. es ++ x.0) known.grown ∙ append_assoc before known.entries x.0;
      tells = grows_more (told c.args.clock.now) (told c.loop-asking.clock) (told c.ask_again-asking.new.clock) known.told x.1 known.tells
          (subst (λ t. Grows t (told c.ask_again-asking.new.clock) x.1) c.pause.ensures.told x.3);
      paused = subst (λ p. Grows (paused c.args.clock.now) p (known.pauses ++ 50 ∷ [])) (sym c.ask_again-asking.ensures.pauses)
          (grows_more (paused c.args.clock.now) (paused c.loop-asking.clock) (paused c.pause.new.self) known.pauses (50 ∷ []) known.paused c.pause.ensures.pauses);
      asks = x.4;
      slot = c.ask_again-asking.ensures.slot;
      refusals = c.ask_again-asking.ensures.refusals
          ∙ ap (λ n. after_call c.ask_again-asking.result n) (known.refusals ∙ ap (λ asking. after_call asking (g.P.Port.refusals c.args.port.now)) is);
    }
