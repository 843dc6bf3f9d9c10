-- What a call leaves in a pass.
use Rattle.std.proofs.Common.{◌≡◌, ℕ, sym, ap, subst}
use Rattle.lb_desk_model.specs.declared.entry.Entry.{Entry}
use Rattle.lb_desk_model.specs.declared.event.Event.{Event}
use Rattle.lb_desk_model.specs.declared.reply.Reply.{Reply}
use Rattle.lb_desk_model.specs.Backends.{BackendParts}
use Rattle.lb_desk_ports.specs.Calls.{entry}
use Rattle.lb_desk_tie.specs.Receipts.{PassView, with_receipt}
use Rattle.lb_desk_shared.specs.Calls.{AddsStep, IsStepAt}

-- one receipt more, of an event whose reply is known
pub adds_step : (backend : BackendParts) (old new : PassView Entry) (number : ℕ) (event : Event) (reply known : Reply)
    → new ≡ with_receipt old (number, entry event reply) → IsStepAt backend old.receipts number event reply → known ≡ reply
    → AddsStep backend old event known new
adds_step backend old new number event reply known receipt step is =
    subst (λ (r : Reply). AddsStep backend old event r new) (sym is) (record { number = number; receipt = receipt; keeper = ap (λ (p : PassView Entry). p.keeper) receipt; step = step })
