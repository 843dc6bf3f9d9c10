use Rattle.std.proofs.Common.{◌≡◌, ℕ, ◌&&◌, false, Some, None, List, [], ◌∷◌, ◌++◌, max, refl, sym, ap, ◌∙◌, subst, arith}
use Rattle.std.specs.Option.{ForSome}
use Rattle.pin_set.specs.declared.pin.PinId.{PinId}
use Rattle.capacity_book.specs.Book.{pins_at}
use Rattle.pin_table.specs.Pins.{made_pin}
use Rattle.pin_table.specs.Tables.{TableParts, after_use}
use Rattle.pin_table.specs.Tables.{staying as table_staying}
use Rattle.pin_table.proofs.Counting.{on_ok}
use Rattle.lb_desk_model.specs.Picks.{Picked, picked}
use Rattle.lb_desk_model.specs.Seen.{Seen}
use Rattle.lb_desk_model.specs.Serves.{IsNew, is_full, keeps_pins, load, new_pin, pin_pick, staying}
use Rattle.lb_desk_model.specs.declared.event.Event.TheVariants.{Serve}
use Rattle.lb_desk_model.specs.declared.reply.Refusal.TheVariants.{NoServer}
use Rattle.lb_desk_model.specs.declared.reply.Reply.TheVariants.{Served, Refused}
use Rattle.lb_desk_model.specs.declared.reply.ServedAs.TheVariants.{Made}
use Rattle.pin_set.specs.declared.table_pin.TablePin.{TablePin}
use Rattle.lb_desk_pick.specs.Sights.{lost_place}
use Rattle.lb_desk_core.specs.Acting.{ActsOn, ForEach}
use Rattle.lb_desk_core.specs.Core.{CoreView, IsReached}
use Rattle.lb_desk_core.specs.Parts.{shown_of}
use Rattle.lb_desk_core.specs.Requests.{IsNamed, keyed}
use Rattle.lb_desk_core.proofs.Requests.{is_seen, made_on, not_made_on}
use Rattle.lb_desk_core.proofs.Room.{lost_held, made_loads, made_room, server_below, staying_same}
use Rattle.lb_desk_core.proofs.Shown.{shown_used}
use Rattle.lb_desk_core.proofs.parts.Parts.serve_by_new_pin.Goals as goal

pub returns-in_default-clause-acts : goal.returns-in_default-clause-acts
returns-in_default-clause-acts g c =
    let p = c.self.inside in
    let old : Seen = shown_of p.balance p.settings p.names.items p.farm p.book p.table p.cursor p.latest in
    let request = c.args.request.now in
    let name = c.args.name.now in
    let is = sym c.self.view_is in
    let named = subst (λ (v : CoreView). IsNamed v.shown request name) is c.requires.named in
    let unknown = subst (λ (v : CoreView). IsNew name v.shown.pins) is c.requires.unknown in
    let room = subst (λ (v : CoreView). ForEach v.shown (λ state. (is_full state && keeps_pins state) ≡ false)) is c.requires.room in
    let lost = subst (λ (v : CoreView). ForEach v.shown (λ state. lost_place state ≡ c.lost_place-lost.result)) is c.lost_place-lost.ensures in
    let pick : ForEach old (λ state. pin_pick state (keyed request name) (staying state) ≡ None) =
    λ state shown.
    sym (c.pin_pick-pick.ensures.made state (keyed request name) (is_seen state old p.book shown refl c.self.invariant.loads) (sym c.servers-rules.ensures) (lost state shown))
    ∙ c.in_default.is in
    subst (λ (v : CoreView). ActsOn v.shown (Serve (keyed request name)) (Refused NoServer) v.shown) c.self.view_is
    (not_made_on old request name named unknown room pick)

pub shift-requires-clause-held : goal.shift-requires-clause-held
shift-requires-clause-held g c =
    let p = c.self.inside in
    let old : Seen = shown_of p.balance p.settings p.names.items p.farm p.book p.table p.cursor p.latest in
    let is = sym c.self.view_is in
    let reached = subst (λ (v : CoreView). IsReached v.shown) is c.requires.reached in
    let lost = subst (λ (v : CoreView). ForEach v.shown (λ state. lost_place state ≡ c.lost_place-lost.result)) is c.lost_place-lost.ensures in
    lost_held old reached p.book c.self.invariant.loads c.lost_place-lost.result (lost reached.reaches.state reached.reaches.is)

pub shift-requires-clause-is_there : goal.shift-requires-clause-is_there
shift-requires-clause-is_there g c =
    let p = c.self.inside in
    let old : Seen = shown_of p.balance p.settings p.names.items p.farm p.book p.table p.cursor p.latest in
    let request = keyed c.args.request.now c.args.name.now in
    let is = sym c.self.view_is in
    let reached = subst (λ (v : CoreView). IsReached v.shown) is c.requires.reached in
    let at = reached.reaches in
    let lost = subst (λ (v : CoreView). ForEach v.shown (λ state. lost_place state ≡ c.lost_place-lost.result)) is c.lost_place-lost.ensures in
    let pick : pin_pick at.state request (staying at.state) ≡ Some (picked c.pick.inside.cursor c.pick.inside.server) =
    sym (c.pin_pick-pick.ensures.made at.state request (is_seen at.state old p.book at.is refl c.self.invariant.loads) (sym c.servers-rules.ensures) (lost at.state at.is))
    ∙ (c.in-Some.is ∙ ap (λ (q : Picked). Some q) (sym c.pick.view_is)) in
    let below = server_below old reached p.book c.self.invariant.loads request c.pick.inside.cursor c.pick.inside.server (staying at.state) pick in
    omega (arith, below, c.self.invariant.many)

pub shift-requires-clause-room : goal.shift-requires-clause-room
shift-requires-clause-room g c =
    let p = c.self.inside in
    let old : Seen = shown_of p.balance p.settings p.names.items p.farm p.book p.table p.cursor p.latest in
    let request = keyed c.args.request.now c.args.name.now in
    let is = sym c.self.view_is in
    let reached = subst (λ (v : CoreView). IsReached v.shown) is c.requires.reached in
    let at = reached.reaches in
    let lost = subst (λ (v : CoreView). ForEach v.shown (λ state. lost_place state ≡ c.lost_place-lost.result)) is c.lost_place-lost.ensures in
    let pick : pin_pick at.state request (staying at.state) ≡ Some (picked c.pick.inside.cursor c.pick.inside.server) =
    sym (c.pin_pick-pick.ensures.made at.state request (is_seen at.state old p.book at.is refl c.self.invariant.loads) (sym c.servers-rules.ensures) (lost at.state at.is))
    ∙ (c.in-Some.is ∙ ap (λ (q : Picked). Some q) (sym c.pick.view_is)) in
    made_room old reached p.book c.self.invariant.loads request c.pick.inside.cursor c.pick.inside.server c.lost_place-lost.result (lost at.state at.is) pick

pub invariant_of-self-2 : goal.invariant_of-self-2
invariant_of-self-2 g c =
    let p = c.self.inside in
    let old : Seen = shown_of p.balance p.settings p.names.items p.farm p.book p.table p.cursor p.latest in
    let is = sym c.self.view_is in
    let named = subst (λ (v : CoreView). IsNamed v.shown c.args.request.now c.args.name.now) is c.requires.named in
    let reached = subst (λ (v : CoreView). IsReached v.shown) is c.requires.reached in
    let lost = subst (λ (v : CoreView). ForEach v.shown (λ state. lost_place state ≡ c.lost_place-lost.result)) is c.lost_place-lost.ensures in
    let st = reached.reaches.state in
    let server = c.pick.inside.server in
    let made = made_pin c.in_ok-copy.copy server c.args.request.now.cost c.moment_of-now.result in
    let inserted : c.insert.new.self ≡ after_use p.table (table_staying p.table ++ made ∷ []) =
    on_ok c.insert.result c.insert.ensures.ok (sym c.if-is_err.false ∙ c.is_err.ensures.value) in
    let pins : c.insert.new.self.pins ≡ staying st ++ made ∷ [] =
    ap (λ (t : TableParts). t.pins) inserted
    ∙ ap (λ (ps : List TablePin). ps ++ made ∷ []) (sym (staying_same st old p.table reached.reaches.is refl c.self.invariant.as_set named.table)) in
    record {
      many = c.shift.ensures.many ∙ c.self.invariant.many;
      loads = λ s below.
          made_loads st c.lost_place-lost.result made server (lost st reached.reaches.is) refl s (pins_at p.book s) (pins_at c.shift.new.book s) (c.shift.ensures.pins s)
          (c.self.invariant.loads s below ∙ sym (ap (λ (q : Seen). load q.pins s) reached.reaches.is))
          ∙ sym (ap (λ (ps : List TablePin). load ps s) pins);
      as_set = subst (λ (t : TableParts). ForSome p.settings (λ s. (t.size ≡ s.size) × (t.no_purge ≡ s.no_purge))) (sym inserted) c.self.invariant.as_set;
    }

pub returns-clause-acts : goal.returns-clause-acts
returns-clause-acts g c =
    let p = c.self.inside in
    let old : Seen = shown_of p.balance p.settings p.names.items p.farm p.book p.table p.cursor p.latest in
    let request = c.args.request.now in
    let name = c.args.name.now in
    let server = c.pick.inside.server in
    let cursor = c.pick.inside.cursor in
    let book = c.shift.new.book in
    let table = c.insert.new.self in
    let now = c.moment_of-now.result in
    let is = sym c.self.view_is in
    let named = subst (λ (v : CoreView). IsNamed v.shown request name) is c.requires.named in
    let unknown = subst (λ (v : CoreView). IsNew name v.shown.pins) is c.requires.unknown in
    let room = subst (λ (v : CoreView). ForEach v.shown (λ state. (is_full state && keeps_pins state) ≡ false)) is c.requires.room in
    let lost = subst (λ (v : CoreView). ForEach v.shown (λ state. lost_place state ≡ c.lost_place-lost.result)) is c.lost_place-lost.ensures in
    let late = subst (λ (v : CoreView). now ≡ max v.shown.latest request.moment) is c.moment_of-now.ensures in
    let made = made_pin c.in_ok-copy.copy server request.cost now in
    let inserted : table ≡ after_use p.table (table_staying p.table ++ made ∷ []) =
    on_ok c.insert.result c.insert.ensures.ok (sym c.if-is_err.false ∙ c.is_err.ensures.value) in
    let rest : table ≡ after_use p.table table.pins = inserted ∙ ap (after_use p.table) (sym (ap (λ (t : TableParts). t.pins) inserted)) in
    let put : ForEach old (λ state. table.pins ≡ staying state ++ new_pin name request server (max old.latest request.moment) ∷ []) =
    λ state shown.
    ap (λ (t : TableParts). t.pins) inserted
    ∙ (ap (λ (ps : List TablePin). ps ++ made ∷ []) (sym (staying_same state old p.table shown refl c.self.invariant.as_set named.table))
    ∙ (ap (λ (n : PinId). staying state ++ made_pin n server request.cost now ∷ []) c.in_ok-copy.ensures
    ∙ ap (λ (m : ℕ). staying state ++ made_pin name server request.cost m ∷ []) late)) in
    let pick : ForEach old (λ state. pin_pick state (keyed request name) (staying state) ≡ Some (picked cursor server)) =
    λ state shown.
    sym (c.pin_pick-pick.ensures.made state (keyed request name) (is_seen state old p.book shown refl c.self.invariant.loads) (sym c.servers-rules.ensures) (lost state shown))
    ∙ (c.in-Some.is ∙ ap (λ (q : Picked). Some q) (sym c.pick.view_is)) in
    let acts = made_on old request name cursor server table.pins named unknown room put pick in
    let new = shown_used p.balance p.settings p.names.items p.farm p.book p.table p.cursor p.latest book table cursor now (max old.latest request.moment)
    c.shift.ensures.connections rest late in
    subst (λ (v : CoreView). ActsOn v.shown (Serve (keyed request name)) (Served server Made) (shown_of p.balance p.settings p.names.items p.farm book table cursor now)) c.self.view_is
    (subst (λ (s : Seen). ActsOn old (Serve (keyed request name)) (Served server Made) s) new acts)
