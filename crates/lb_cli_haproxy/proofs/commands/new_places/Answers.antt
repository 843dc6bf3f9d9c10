use Rattle.std.proofs.Common.{◌∙◌, ℕ, Option, List, length, ap}
use Rattle.std.proofs.lemmas.List.{length-map}
use Rattle.lb_cli_haproxy.proofs.Made.{kinds_many}
use Rattle.lb_cli_haproxy.proofs.commands.new_places.Goals as goal

pub returns-in-Some-clause-whole : goal.returns-in-Some-clause-whole
returns-in-Some-clause-whole c =
    let agreed = rw c.in-Some.is at c.in_ok-places.ensures.agrees in
    agreed.whole ∙ kinds_many c.usable_servers.result c.args.farm.now c.deref.result.now
    ∙ ap (λ (places : List (Option ℕ)). length places) (c.deref.ensures.value ∙ c.in_ok-now.ensures) ∙ length-map c.args.clients.now _
