use Rattle.std.proofs.Common.{sym, ◌∙◌}
use Rattle.std.proofs.lemmas.Option.{unwrap_or-slice_get}
use Rattle.lb_desk_core.proofs.backend_core.Core.connections.Goals as goal

pub returns : goal.returns
returns g c =
    let p = c.self-inside.inside in
    rw (← c.self.view_is, ← c.self-inside.view_is) (c.connections.ensures ∙ sym (unwrap_or-slice_get p.0.0.book.connections c.args.server 0))
