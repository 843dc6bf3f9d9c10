use Rattle.std.proofs.Common.{◌≡◌, ℕ, true, Option, Err, sym, ap, subst, ◌∙◌}
use Rattle.std.specs.Io.KnownBytes.{Appends}
use Rattle.std.proofs.lemmas.Result.{on_ok_weaker}
use Rattle.lb_desk_step.specs.Desk.{DeskView, Takes, is_worn_for}
use Rattle.lb_replay.specs.Answers.{reply_line}
use Rattle.lb_replay.specs.Days.{DayView, with_reply}
use Rattle.lb_replay.proofs.Outcomes.{took_event, worn_event}
use Rattle.lb_replay.proofs.day.Day.take.Goals as goal

pub returns-in_ok-keep-in-Ok : goal.returns-in_ok-keep-in-Ok
returns-in_ok-keep-in-Ok g c =
    let farm = c.args.farm.now in
    let reply = c.in-Ok.reply in
    let old = c.args.out.now.contents in
    let new = c.print_reply.new.out.contents in
    let takes : Takes c.args.self.now.desk c.args.event reply c.keep.new.self.desk =
    subst (λ (d : DeskView). Takes c.args.self.now.desk c.args.event reply d) (sym c.in_ok-keep-in-Ok.ensures.desk)
    (subst (λ (v : DayView). Takes v.desk c.args.event reply c.step.new.self) c.self.view_is c.in-Ok.ensures.takes) in
    let sheets : c.keep.new.self.sheets ≡ with_reply c.args.self.now.sheets reply =
    subst (λ (v : DayView). c.keep.new.self.sheets ≡ with_reply v.sheets reply) c.self.view_is c.in_ok-keep-in-Ok.ensures.sheets in
    on_ok_weaker c.print_reply.result (λ went. took_event farm c.args.self.now c.keep.new.self c.args.event reply old new takes sheets
    (subst (λ (asked : Option ℕ). Appends old new (reply_line farm asked reply)) c.asked_server-asked.ensures went)) c.print_reply.ensures

pub returns-in-Err-Worn : goal.returns-in-Err-Worn
returns-in-Err-Worn g c =
    let desk : DeskView = c.step.new.self in
    let same : record { desk = desk; sheets = c.self.inside.sheets.items } ≡ c.args.self.now =
    ap (λ (d : DeskView). record { desk = d; sheets = c.self.inside.sheets.items }) c.in-Err-Worn.ensures.err ∙ c.self.view_is in
    let worn : is_worn_for c.self.inside.desk c.args.event ≡ true = c.in-Err-Worn.ensures.worn.0 (ap Err c.in-Err-Worn.field-0-is) in
    let worn_then : is_worn_for c.args.self.now.desk c.args.event ≡ true =
    subst (λ (v : DayView). is_worn_for v.desk c.args.event ≡ true) c.self.view_is worn in
    on_ok_weaker c.print_worn.result (worn_event c.args.farm.now c.args.self.now _ c.args.event c.args.out.now.contents c.print_worn.new.out.contents worn_then same) c.print_worn.ensures
