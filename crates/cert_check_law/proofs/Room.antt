-- A sheet allows as many pins at each server as the views that it stands for.
use Rattle.std.proofs.Common.{◌≡◌, ℕ, zero, suc, ◌+◌, Bool, true, false, cond, Some, None, List, [], ◌∷◌, map, refl, sym, ap, ◌∙◌, arith}
use Rattle.std.specs.Prelude.{unwrap_or, slice_get}
use Rattle.std.specs.List.{enumerate_from}
use Rattle.lb_types.specs.Servers.{has}
use Rattle.lb_types_pins.specs.declared.kind.Row.{Row}
use Rattle.dual_cert_plan.specs.declared.server.Server.{Server}
use Rattle.dual_cert_plan.specs.Sheets.{SheetParts, capacity_of}
use Rattle.pin_set.specs.declared.view.ViewServer.{ViewServer}
use Rattle.pin_set.specs.Rows.{AgreeingAreBest}
use Rattle.pin_set.specs.Views.{ViewParts, kinds_of, capacities}
use Rattle.cert_check_law.proofs.Views.{best-same_capacities}
use Rattle.cert_check_law.specs.Sheets.{listed_server, StandsFor, sheet_room, AreBestForViews}

abbrev room_of : List Server → ℕ → ℕ
room_of servers server = unwrap_or (capacity_of servers server) 0

abbrev space_at : List ViewServer → ℕ → ℕ
space_at servers server = Rattle.pin_set.specs.Views.capacity_of (slice_get servers server)

cond_zero : (b : Bool) → cond {A = ℕ} b 0 0 ≡ 0
cond_zero true = refl
cond_zero false = refl

listed_room : (b : Bool) (n : ℕ) → unwrap_or (cond b (Some n) None) 0 ≡ cond b n 0
listed_room true n = refl
listed_room false n = refl

listed-room : (usable k : ℕ) (servers : List ViewServer) (i : ℕ)
    → room_of (map (listed_server usable) (enumerate_from k servers)) i ≡ cond (has usable (k + i)) (space_at servers i) 0
listed-room usable k [] i = sym (cond_zero (has usable (k + i)))
listed-room usable k (server ∷ servers) zero =
    let e : k + 0 ≡ k = omega arith in
    rw e (listed_room (has usable k) server.capacity)
listed-room usable k (server ∷ servers) (suc i) =
    let e : k + 1 + i ≡ k + suc i = omega arith in
    listed-room usable (k + 1) servers i ∙ rw e refl

pub room-view : (sheet : SheetParts) (view : ViewParts) (server : ℕ) → StandsFor sheet view → sheet_room sheet server ≡ capacities view server
room-view sheet view server stands =
    let e : 0 + server ≡ server = omega arith in
    ap (λ servers. room_of servers server) stands.servers ∙ (listed-room view.usable 0 view.servers server ∙ rw e refl)

pub best_for_views : (sheet : SheetParts) (rows : List Row) → AgreeingAreBest (sheet_room sheet) rows → AreBestForViews sheet rows
best_for_views sheet rows agreeing = record {
  best = λ view a stands agrees.
      best-same_capacities (sheet_room sheet) (capacities view) (kinds_of view) a (λ server. room-view sheet view server stands) (agreeing.best (kinds_of view) a agrees);
  score = λ view a stands agrees. agreeing.score (kinds_of view) a agrees;
}
