use Rattle.std.proofs.Common.{◌≡◌, ℕ, false, Some, max, refl, sym, ap, ◌∙◌, subst, arith}
use Rattle.std.specs.Option.{ForSome}
use Rattle.capacity_book.specs.Book.{pins_at}
use Rattle.pin_table.specs.Pins.{Stands, IsUsed}
use Rattle.pin_table.specs.Tables.{TableParts}
use Rattle.lb_desk_model.specs.Picks.{Picked, picked}
use Rattle.lb_desk_model.specs.Seen.{Seen}
use Rattle.lb_desk_model.specs.Serves.{pin_pick}
use Rattle.lb_desk_model.specs.declared.event.Event.TheVariants.{Serve}
use Rattle.lb_desk_model.specs.declared.reply.Reply.TheVariants.{Served}
use Rattle.lb_desk_model.specs.declared.reply.ServedAs.TheVariants.{Moved}
use Rattle.lb_desk_core.specs.Acting.{ActsOn, ForEach}
use Rattle.lb_desk_core.specs.Core.{CoreView, IsReached}
use Rattle.lb_desk_core.specs.Parts.{shown_of}
use Rattle.lb_desk_core.specs.Requests.{IsNamed, honours, keyed}
use Rattle.lb_desk_core.proofs.Requests.{is_seen, moved_on}
use Rattle.lb_desk_core.proofs.Room.{moved_held, moved_loads, moved_room, server_below}
use Rattle.lb_desk_core.proofs.Shown.{shown_used}
use Rattle.lb_desk_core.proofs.parts.Parts.move_pin.Goals as goal

pub shift-requires-clause-held : goal.shift-requires-clause-held
shift-requires-clause-held g c =
    let p = c.self.inside in
    let old : Seen = shown_of p.balance p.settings p.names.items p.farm p.book p.table p.cursor p.latest in
    let name = c.args.name.now in
    let held = c.args.held in
    let is = sym c.self.view_is in
    let reached = subst (λ (v : CoreView). IsReached v.shown) is c.requires.reached in
    let stands = subst (λ (v : CoreView). Stands name held v.shown.pins) is c.requires.stands in
    moved_held old reached p.book c.self.invariant.loads name held stands

pub shift-requires-clause-is_there : goal.shift-requires-clause-is_there
shift-requires-clause-is_there g c =
    let p = c.self.inside in
    let old : Seen = shown_of p.balance p.settings p.names.items p.farm p.book p.table p.cursor p.latest in
    let request = keyed c.args.request.now c.args.name.now in
    let reached = subst (λ (v : CoreView). IsReached v.shown) (sym c.self.view_is) c.requires.reached in
    let at = reached.reaches in
    let pick : pin_pick at.state request at.state.pins ≡ Some (picked c.pick.inside.cursor c.pick.inside.server) =
    sym (c.pin_pick-pick.ensures.moved refl at.state request (is_seen at.state old p.book at.is refl c.self.invariant.loads) (sym c.servers-rules.ensures))
    ∙ (c.in-Some.is ∙ ap (λ (q : Picked). Some q) (sym c.pick.view_is)) in
    let below = server_below old reached p.book c.self.invariant.loads request c.pick.inside.cursor c.pick.inside.server at.state.pins pick in
    omega (arith, below, c.self.invariant.many)

pub shift-requires-clause-room : goal.shift-requires-clause-room
shift-requires-clause-room g c =
    let p = c.self.inside in
    let old : Seen = shown_of p.balance p.settings p.names.items p.farm p.book p.table p.cursor p.latest in
    let request = keyed c.args.request.now c.args.name.now in
    let reached = subst (λ (v : CoreView). IsReached v.shown) (sym c.self.view_is) c.requires.reached in
    let at = reached.reaches in
    let pick : pin_pick at.state request at.state.pins ≡ Some (picked c.pick.inside.cursor c.pick.inside.server) =
    sym (c.pin_pick-pick.ensures.moved refl at.state request (is_seen at.state old p.book at.is refl c.self.invariant.loads) (sym c.servers-rules.ensures))
    ∙ (c.in-Some.is ∙ ap (λ (q : Picked). Some q) (sym c.pick.view_is)) in
    moved_room old reached p.book c.self.invariant.loads request c.pick.inside.cursor c.pick.inside.server c.args.held.place pick

pub invariant_of-self-2 : goal.invariant_of-self-2
invariant_of-self-2 g c =
    let p = c.self.inside in
    let name = c.args.name.now in
    let held = c.args.held in
    let stands = subst (λ (v : CoreView). Stands name held v.shown.pins) (sym c.self.view_is) c.requires.stands in
    record {
      many = c.shift.ensures.many ∙ c.self.invariant.many;
      loads = λ s below.
          moved_loads name held c.pick.inside.server c.moment_of-now.result p.table.pins c.move_to.new.self.pins stands c.in_ok-move_to.ensures.used
          s (pins_at p.book s) (pins_at c.shift.new.book s) (c.shift.ensures.pins s) (c.self.invariant.loads s below);
      as_set = subst (λ (t : TableParts). ForSome p.settings (λ s. (t.size ≡ s.size) × (t.no_purge ≡ s.no_purge))) (sym c.in_ok-move_to.ensures.rest) c.self.invariant.as_set;
    }

pub returns-clause-acts : goal.returns-clause-acts
returns-clause-acts g c =
    let p = c.self.inside in
    let old : Seen = shown_of p.balance p.settings p.names.items p.farm p.book p.table p.cursor p.latest in
    let request = c.args.request.now in
    let name = c.args.name.now in
    let held = c.args.held in
    let server = c.pick.inside.server in
    let cursor = c.pick.inside.cursor in
    let book = c.shift.new.book in
    let table = c.move_to.new.self in
    let now = c.moment_of-now.result in
    let is = sym c.self.view_is in
    let named = subst (λ (v : CoreView). IsNamed v.shown request name) is c.requires.named in
    let stands = subst (λ (v : CoreView). Stands name held v.shown.pins) is c.requires.stands in
    let left = subst (λ (v : CoreView). (s : ℕ) → held.place ≡ Some s → honours v.shown name.want s ≡ false) is c.requires.left in
    let late = subst (λ (v : CoreView). now ≡ max v.shown.latest request.moment) is c.moment_of-now.ensures in
    let used = subst (λ (m : ℕ). IsUsed name (Some server) m old.pins table.pins) late c.in_ok-move_to.ensures.used in
    let pick : ForEach old (λ state. pin_pick state (keyed request name) state.pins ≡ Some (picked cursor server)) =
    λ state shown.
    sym (c.pin_pick-pick.ensures.moved refl state (keyed request name) (is_seen state old p.book shown refl c.self.invariant.loads) (sym c.servers-rules.ensures))
    ∙ (c.in-Some.is ∙ ap (λ (q : Picked). Some q) (sym c.pick.view_is)) in
    let acts = moved_on old request name held cursor server table.pins named stands left used pick in
    let new = shown_used p.balance p.settings p.names.items p.farm p.book p.table p.cursor p.latest book table cursor now (max old.latest request.moment)
    c.shift.ensures.connections c.in_ok-move_to.ensures.rest late in
    subst (λ (v : CoreView). ActsOn v.shown (Serve (keyed request name)) (Served server Moved) (shown_of p.balance p.settings p.names.items p.farm book table cursor now)) c.self.view_is
    (subst (λ (s : Seen). ActsOn old (Serve (keyed request name)) (Served server Moved) s) new acts)
