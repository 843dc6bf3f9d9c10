use Rattle.std.proofs.Common.{◌≡◌, ℕ, max, refl, sym, subst}
use Rattle.pin_table.specs.Pins.{Stands, IsUsed}
use Rattle.lb_desk_model.specs.Seen.{Seen}
use Rattle.lb_desk_model.specs.declared.event.Event.TheVariants.{Set}
use Rattle.lb_desk_model.specs.declared.reply.PinnedAs.TheVariants as Put
use Rattle.lb_desk_model.specs.declared.reply.Reply.TheVariants.{Pinned}
use Rattle.lb_desk_core.specs.Acting.{ActsOn}
use Rattle.lb_desk_core.specs.Core.{CoreView}
use Rattle.lb_desk_core.specs.Parts.{shown_of}
use Rattle.lb_desk_core.specs.SetPins.{HasPlace}
use Rattle.lb_desk_core.proofs.SetPins.{at_server, kept_set_on}
use Rattle.lb_desk_core.proofs.Shown.{shown_used}
use Rattle.lb_desk_core.proofs.parts.Parts.set_kept.Goals as goal

pub returns-clause-acts : goal.returns-clause-acts
returns-clause-acts g c =
    let p = c.self.inside in
    let old : Seen = shown_of p.balance p.settings p.names.items p.farm p.book p.table p.cursor p.latest in
    let set = c.args.set.now in
    let held = c.args.held in
    let table = c.keep.new.self in
    let now = c.moment_of-now.result in
    let is = sym c.self.view_is in
    let place = subst (λ (v : CoreView). HasPlace v.shown set) is c.requires.place in
    let stands = subst (λ (v : CoreView). Stands set.name held v.shown.pins) is c.requires.stands in
    let late = subst (λ (v : CoreView). now ≡ max v.shown.latest set.moment) is c.moment_of-now.ensures in
    let used = subst (λ (m : ℕ). IsUsed set.name held.place m old.pins table.pins) late c.keep.ensures.used in
    let acts = kept_set_on old set held table.pins place stands (at_server set.server held.place c.requires.at) used in
    let new = shown_used p.balance p.settings p.names.items p.farm p.book p.table p.cursor p.latest p.book table p.cursor now (max old.latest set.moment) refl c.keep.ensures.rest late in
    subst (λ (v : CoreView). ActsOn v.shown (Set set) (Pinned Put.Kept) (shown_of p.balance p.settings p.names.items p.farm p.book table p.cursor now)) c.self.view_is
    (subst (λ (s : Seen). ActsOn old (Set set) (Pinned Put.Kept) s) new acts)
