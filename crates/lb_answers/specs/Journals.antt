-- The entries of a journal, as `show journal` has them, and the plan that `show plan` prints.
use Rattle.std.specs.Prelude.{ℕ, Option, Some, None, List, ◌++◌, flat_map, filter_map, codes}
use Rattle.std.specs.Fmt.{decimal}
use Rattle.std.specs.List.{enumerate_from, last_or}
use Rattle.dual_cert_plan.specs.Plans.{PlanParts}
use Rattle.dual_cert_text.specs.Spellings.{spelling}
use Rattle.lb_desk_model.specs.declared.backend.BackendServer.{BackendServer}
use Rattle.lb_desk_model.specs.declared.entry.Entry.{Entry}
use Rattle.lb_desk_model.specs.declared.event.Event.{Event}
use Rattle.lb_desk_model.specs.declared.event.Event.TheVariants.{Install}
use Rattle.lb_desk_model.specs.declared.reply.Reply.{Reply}
use Rattle.lb_desk_model.specs.declared.reply.Reply.TheVariants.{Installed}
use Rattle.lb_answers.specs.Events.{asked_server, event_text}
use Rattle.lb_answers.specs.Replies.{reply_text}

-- the line of an entry: its number, its event and its reply
unfoldable pub entry_line : List ℕ → List BackendServer → ℕ → Entry → List ℕ
entry_line backend servers number entry =
    decimal number ++ codes " " ++ event_text backend servers entry.event ++ codes " -> "
    ++ reply_text servers (asked_server entry.event) entry.reply ++ codes "\n"

-- the entries in their order, of which the first one has this number
abbrev pub journal_text : List ℕ → List BackendServer → ℕ → List Entry → List ℕ
journal_text backend servers first entries = flat_map (λ m. entry_line backend servers m.0 m.1) (enumerate_from first entries)

-- the plan of an install that was not refused
abbrev pub plan_installed : Event → Reply → Option PlanParts
plan_installed (Install plan) (Installed score) = Some plan
plan_installed _ _ = None

-- the plan that was installed last, if one of the entries installed one
abbrev pub last_installed : List Entry → Option PlanParts
last_installed entries = last_or None (filter_map (λ entry. plan_installed entry.event entry.reply) entries)

-- the spelling of the plan, if there is one
abbrev pub plan_text : Option PlanParts → List ℕ
plan_text None = codes "no plan\n"
plan_text (Some plan) = spelling plan
