use Rattle.std.proofs.Common.{◌≡◌, true, Err, ap, subst, ◌∙◌}
use Rattle.std.proofs.lemmas.Result.{on_ok_weaker}
use Rattle.lb_desk_step.specs.Desk.{DeskView}
use Rattle.lb_desk_step.specs.Planning.{PlansNow, is_worn_for_two}
use Rattle.lb_replay.specs.Days.{DayView}
use Rattle.lb_replay.proofs.Outcomes.{planned_now, worn_now}
use Rattle.lb_replay.proofs.day.Day.plan_now.Goals as goal

pub returns : goal.returns
returns g c =
    let desk : DeskView = c.plan_now.new.self in
    let new : DayView = record { desk = desk; sheets = c.self.inside.sheets.items } in
    let plans : PlansNow c.args.self.now.desk c.in-Ok.score desk =
    subst (λ (v : DayView). PlansNow v.desk c.in-Ok.score desk) c.self.view_is c.in-Ok.ensures.plans in
    on_ok_weaker c.print_score.result (planned_now c.args.farm.now c.args.self.now new c.in-Ok.score c.args.out.now.contents c.print_score.new.out.contents
    plans (ap (λ (v : DayView). v.sheets) c.self.view_is)) c.print_score.ensures

pub returns-in-Err-Worn : goal.returns-in-Err-Worn
returns-in-Err-Worn g c =
    let desk : DeskView = c.plan_now.new.self in
    let new : DayView = record { desk = desk; sheets = c.self.inside.sheets.items } in
    let same : new ≡ c.args.self.now =
    ap (λ (d : DeskView). record { desk = d; sheets = c.self.inside.sheets.items }) c.in-Err-Worn.ensures.err ∙ c.self.view_is in
    let worn : is_worn_for_two c.self.inside.desk ≡ true = c.in-Err-Worn.ensures.worn.0 (ap Err c.in-Err-Worn.field-0-is) in
    let worn_then : is_worn_for_two c.args.self.now.desk ≡ true = subst (λ (v : DayView). is_worn_for_two v.desk ≡ true) c.self.view_is worn in
    on_ok_weaker c.print_worn.result (worn_now c.args.farm.now c.args.self.now new c.args.out.now.contents c.print_worn.new.out.contents worn_then same) c.print_worn.ensures
