-- What a core does with a request, as a step with the version counted.
use Rattle.std.proofs.Common.{◌≡◌, ℕ, Bool, Option, List, sym, ap, ◌∙◌, subst}
use Rattle.server_state.specs.Farm.{FarmView}
use Rattle.capacity_book.specs.Book.{BookView}
use Rattle.pin_table.specs.Tables.{TableParts}
use Rattle.lb_types.specs.declared.table_settings.TableSettings.{TableSettings}
use Rattle.lb_types.specs.declared.balance.Balance.{Balance}
use Rattle.lb_desk_model.specs.declared.event.Event.TheVariants.{Serve}
use Rattle.lb_desk_model.specs.declared.event.Request.{Request}
use Rattle.lb_desk_model.specs.declared.reply.Reply.{Reply}
use Rattle.lb_desk_model.specs.declared.reply.Reply.TheVariants.{Served, Refused}
use Rattle.lb_desk_model.specs.declared.reply.ServedAs.TheVariants.{Kept, Moved, Made, Loose}
use Rattle.lb_desk_model.specs.declared.stand.Stand.{Stand}
use Rattle.lb_desk_model.specs.Seen.{Seen, Steps}
use Rattle.lb_desk_servers.specs.Shown.{counted}
use Rattle.lb_desk_core.specs.Acting.{ActsOn}
use Rattle.lb_desk_core.specs.Core.{IsReached}
use Rattle.lb_desk_core.specs.Parts.{shown_of}
use Rattle.lb_desk_core.specs.Requests.{moves_pin}
use Rattle.lb_desk_core.proofs.Stepped.{steps_same, steps_more}

pub serve_steps : (old new : Seen) (request : Request) (reply : Reply) → IsReached old → ActsOn old (Serve request) reply new
    → Steps old (Serve request) reply (record new { version = counted new.version (moves_pin reply) })
serve_steps old new request (Served server Kept) r acts = steps_same old new (Serve request) (Served server Kept) r acts tt
serve_steps old new request (Served server Moved) r acts = steps_more old new (Serve request) (Served server Moved) r acts (λ keeps. keeps)
serve_steps old new request (Served server Made) r acts = steps_more old new (Serve request) (Served server Made) r acts (λ keeps. keeps)
serve_steps old new request (Served server Loose) r acts = steps_same old new (Serve request) (Served server Loose) r acts tt
serve_steps old new request (Refused refusal) r acts = steps_same old new (Serve request) (Refused refusal) r acts tt
serve_steps old new request reply r acts = absurd (acts r.reaches.state r.reaches.is).does

-- the core's parts behind it
pub served_parts : (balance : Balance) (settings : Option TableSettings) (names : List (List ℕ)) (farm : FarmView) (book : BookView) (table new_table : TableParts) (cursor : Option Stand) (latest : ℕ)
    (old : Seen) (request : Request) (reply : Reply) (changes : Bool) → IsReached old
    → ActsOn old (Serve request) reply (shown_of balance settings names farm book table cursor latest)
    → changes ≡ moves_pin reply → new_table ≡ record table { version = counted table.version changes }
    → Steps old (Serve request) reply (shown_of balance settings names farm book new_table cursor latest)
served_parts balance settings names farm book table new_table cursor latest old request reply changes r acts told counts =
    let shown : TableParts → Seen = λ t. shown_of balance settings names farm book t cursor latest in
    let steps : Steps old (Serve request) reply (shown (record table { version = counted table.version (moves_pin reply) })) =
    serve_steps old (shown table) request reply r acts in
    let same : record table { version = counted table.version (moves_pin reply) } ≡ record table { version = counted table.version changes } =
    ap (λ (b : Bool). record table { version = counted table.version b }) (sym told) in
    subst (λ (t : TableParts). Steps old (Serve request) reply (shown t)) (same ∙ sym counts) steps
