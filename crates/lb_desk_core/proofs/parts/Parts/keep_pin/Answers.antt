use Rattle.std.proofs.Common.{◌≡◌, ℕ, true, max, refl, sym, subst}
use Rattle.pin_table.specs.Pins.{Stands, IsUsed}
use Rattle.lb_desk_model.specs.Seen.{Seen}
use Rattle.lb_desk_model.specs.declared.event.Event.TheVariants.{Serve}
use Rattle.lb_desk_model.specs.declared.reply.Reply.TheVariants.{Served}
use Rattle.lb_desk_model.specs.declared.reply.ServedAs.TheVariants.{Kept}
use Rattle.lb_desk_core.specs.Acting.{ActsOn}
use Rattle.lb_desk_core.specs.Core.{CoreView}
use Rattle.lb_desk_core.specs.Parts.{shown_of}
use Rattle.lb_desk_core.specs.Requests.{IsNamed, honours, keyed}
use Rattle.lb_desk_core.proofs.Requests.{kept_on}
use Rattle.lb_desk_core.proofs.Shown.{shown_used}
use Rattle.lb_desk_core.proofs.parts.Parts.keep_pin.Goals as goal

pub returns-clause-acts : goal.returns-clause-acts
returns-clause-acts g c =
    let p = c.self.inside in
    let old : Seen = shown_of p.balance p.settings p.names.items p.farm p.book p.table p.cursor p.latest in
    let request = c.args.request.now in
    let name = c.args.name.now in
    let held = c.args.held in
    let server = c.args.server in
    let table = c.keep.new.self in
    let now = c.moment_of-now.result in
    let is = sym c.self.view_is in
    let named = subst (λ (v : CoreView). IsNamed v.shown request name) is c.requires.named in
    let stands = subst (λ (v : CoreView). Stands name held v.shown.pins) is c.requires.stands in
    let kept = subst (λ (v : CoreView). honours v.shown name.want server ≡ true) is c.requires.kept in
    let late = subst (λ (v : CoreView). now ≡ max v.shown.latest request.moment) is c.moment_of-now.ensures in
    let used = subst (λ (m : ℕ). IsUsed name held.place m old.pins table.pins) late c.keep.ensures.used in
    let acts = kept_on old request name held server table.pins named stands c.requires.at kept used in
    let new = shown_used p.balance p.settings p.names.items p.farm p.book p.table p.cursor p.latest p.book table p.cursor now (max old.latest request.moment) refl c.keep.ensures.rest late in
    subst (λ (v : CoreView). ActsOn v.shown (Serve (keyed request name)) (Served server Kept) (shown_of p.balance p.settings p.names.items p.farm p.book table p.cursor now)) c.self.view_is
    (subst (λ (s : Seen). ActsOn old (Serve (keyed request name)) (Served server Kept) s) new acts)
