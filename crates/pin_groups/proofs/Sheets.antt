-- The servers of a view, as its sheet lists them, and the kinds of its pins keep a sheet's rules.
use Rattle.std.proofs.Common.{◌≡◌, ℕ, zero, suc, ◌+◌, ◌*◌, ◌^◌, ◌<◌, ◌≤◌, Bool, true, false, cond, Some, None, List, [], ◌∷◌, map, length, get_or, refl, ap, ◌∙◌, arith}
use Rattle.std.specs.Option.{ForSome}
use Rattle.std.specs.List.{All, enumerate_from}
use Rattle.std.proofs.lemmas.List.{length-map, get_or-map}
use Rattle.std.proofs.lemmas.List.FromFn.{length-enumerate_from, get_or-enumerate_from}
use Rattle.std.proofs.lemmas.List.Elements.{All-map}
use Rattle.lb_types.specs.Servers.{has}
use Rattle.lb_types_pins.specs.declared.kind.PinKind.{PinKind}
use Rattle.lb_types_pins.specs.declared.kind.Group.{Group}
use Rattle.dual_cert_plan.specs.declared.server.Server.{Server}
use Rattle.dual_cert_plan.specs.Sheets.{IsSheet, sheet_of_parts, AreServers, IsKind, is_usable}
use Rattle.pin_set.specs.declared.view.ViewServer.{ViewServer}
use Rattle.pin_set.specs.Views.{ViewParts, IsView, kind_of, kinds_of}
use Rattle.cert_check_law.proofs.Views.{permitted_usable}
use Rattle.cert_check_law.proofs.Agreeing.{same_kind_is, sum_by-groups, length-ones}
use Rattle.cert_check_law.proofs.Weights.{holds_where_heavy, sum_by-same}
use Rattle.lb_types_pins.specs.Kinds.{same_kind}
use Rattle.lb_types_pins.proofs.Order.{same_kind-refl}
use Rattle.pin_set.specs.Rows.{AreGroupsOf}
use Rattle.pin_groups.specs.Rising.{AreRising}
use Rattle.std.proofs.lemmas.List.Sums.{get_or-le-sum_by}
use Rattle.cert_check_law.specs.Sheets.{listed_server, listed_servers}

pub length-listed : (usable : ℕ) (servers : List ViewServer) → length (listed_servers usable servers) ≡ length servers
length-listed usable servers = length-map (enumerate_from 0 servers) (listed_server usable) ∙ length-enumerate_from 0 servers

-- the server at a place of the list
pub get_or-listed : (usable : ℕ) (servers : List ViewServer) (i : ℕ) (d : Server) (e : ViewServer) → i < length servers
    → get_or (listed_servers usable servers) i d ≡ listed_server usable (i, get_or servers i e)
get_or-listed usable servers i d e below =
    let start : ℕ × ViewServer = (0, e) in
    let long = length-enumerate_from 0 servers in
    let at : 0 + i ≡ i = omega arith in
    get_or-map (listed_server usable) (enumerate_from 0 servers) i start d (omega arith)
    ∙ ap (listed_server usable) (get_or-enumerate_from 0 servers i start below ∙ rw at refl)

listed_below : (b : Bool) (n : ℕ) → n < 2 ^ 32 → ForSome (cond b (Some n) None) (λ c. c < 2 ^ 32)
listed_below true n below c is = let same : n ≡ c = cc in omega arith
listed_below false n below c is = cc

pub are_servers : (view : ViewParts) → IsView view → AreServers (listed_servers view.usable view.servers)
are_servers view lawful =
    let long = length-listed view.usable view.servers in
    record {
      few = omega (arith, lawful.few_servers);
      named = λ i d below.
          let e : ViewServer = record { name = []; capacity = 0 } in
          let inside : i < length view.servers = omega arith in
          rw (get_or-listed view.usable view.servers i d e inside) (lawful.named i e inside);
      distinct = λ i j d before below.
          let e : ViewServer = record { name = []; capacity = 0 } in
          let inside : j < length view.servers = omega arith in
          let inside' : i < length view.servers = omega arith in
          rw (get_or-listed view.usable view.servers i d e inside', get_or-listed view.usable view.servers j d e inside) (lawful.distinct_servers i j e before inside);
      capacities = λ i d below.
          let e : ViewServer = record { name = []; capacity = 0 } in
          let inside : i < length view.servers = omega arith in
          rw (get_or-listed view.usable view.servers i d e inside) (listed_below (has view.usable i) (get_or view.servers i e).capacity (lawful.room i e inside));
    }

-- a usable server of the view is one of the sheet
usable_listed : (usable k : ℕ) (servers : List ViewServer) (i : ℕ) → i < length servers → has usable (k + i) ≡ true
    → is_usable (map (listed_server usable) (enumerate_from k servers)) i ≡ true
usable_listed usable k [] i below is = absurd (omega arith)
usable_listed usable k (server ∷ servers) zero below is =
    let e : has usable k ≡ true = ap (has usable) (omega arith) ∙ is in
    rw e refl
usable_listed usable k (server ∷ servers) (suc i) below is =
    usable_listed usable (k + 1) servers i (omega arith) (ap (has usable) (omega arith) ∙ is)

-- the kind of each pin of a view is one that its sheet may have
pub is_kind : (view : ViewParts) → IsView view → All (λ pin. IsKind (listed_servers view.usable view.servers) (kind_of view.usable pin)) view.pins
is_kind view lawful i d below =
    let long = length-listed view.usable view.servers in
    record {
      place = λ server is. omega (arith, lawful.places i d below server is);
      permitted = λ s is.
          let usable = permitted_usable (get_or view.pins i d).id.want view.usable s is in
          usable_listed view.usable 0 view.servers s (lawful.usable s usable) (ap (has view.usable) (omega arith) ∙ usable);
      cost_from = lawful.cost_from i d below;
      cost_to = lawful.cost_to i d below;
    }

-- rising groups that count a view's pins make its sheet
pub is_sheet : (view : ViewParts) → IsView view → (version : ℕ) → version ≤ 2 ^ 63 → (groups : List Group) → AreRising groups
    → AreGroupsOf groups (kinds_of view) → IsSheet (sheet_of_parts version (listed_servers view.usable view.servers) groups)
is_sheet view lawful version small groups rising counts = record {
  version = small;
  servers = are_servers view lawful;
  kinds = λ i d below.
      let P : PinKind → Type 0 = IsKind (listed_servers view.usable view.servers) in
      let g = get_or groups i d in
      let here : cond (same_kind g.kind g.kind) g.count 0 ≡ g.count = rw (same_kind-refl g.kind) refl in
      let within = get_or-le-sum_by (λ (h : Group). cond (same_kind g.kind h.kind) h.count 0) groups i d below in
      holds_where_heavy same_kind same_kind_is P (λ (k : PinKind). k) (λ (k : PinKind). 1) (kinds_of view) g.kind
      (All-map P (kind_of view.usable) view.pins (is_kind view lawful))
      (omega (arith, rising.counted i d below, counts g.kind));
  counted = rising.counted;
  total =
      let ones = length-ones (kinds_of view) in
      let all = sum_by-groups groups (kinds_of view) (λ kind. 1) counts in
      let same = sum_by-same (λ (g : Group). g.count * 1) (λ (g : Group). g.count) groups (λ g. omega arith) in
      omega (arith, length-map view.pins (kind_of view.usable), lawful.few_pins);
  rising = rising.rising;
}
