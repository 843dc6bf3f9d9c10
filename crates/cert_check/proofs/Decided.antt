-- Each test of the verdict says what its fact says.
use Rattle.std.proofs.Common.{◌≡◌, Option, ℕ, ◌+◌, ◌≤◌, true, eqb, leb, List, length, get_or, refl, ◌∙◌, arith, inl, inr, Decides}
use Rattle.std.specs.List.{All, list_all, range_with_len}
use Rattle.std.specs.Option.{option_eq}
use Rattle.std.specs.Prelude.{nat_eq}
use Rattle.std.specs.Cmp.Lexicographic.{pointwise}
use Rattle.std.proofs.lemmas.Bool.{le-leb, leb-true, eqb-true, eq-eqb, and_parts, and_from, cases_lt}
use Rattle.std.proofs.lemmas.Bool.Decides.{Decides-eqb, Decides-and, Decides-like, Decides-by_and}
use Rattle.std.proofs.lemmas.List.Elements.{All-get_or, All-from_get_or}
use Rattle.std.proofs.lemmas.List.FromFn.{get_or-range_with_len, length-range_with_len}
use Rattle.std.proofs.lemmas.Slice.Eq.{slice_eq-Decides, bytes_eq-Decides}
use Rattle.lb_types_pins.specs.declared.kind.PinKind.{PinKind}
use Rattle.lb_types_pins.specs.declared.kind.Group.{Group}
use Rattle.lb_types_pins.specs.declared.kind.Row.{Row}
use Rattle.lb_types_pins.specs.Kinds.{same_kind}
use Rattle.lb_types_pins.proofs.Order.{same_place-true, same_place-refl, same_kind-true, same_kind-refl}
use Rattle.pin_set.specs.Assignments.{may_go}
use Rattle.pin_set.specs.Rows.{rows_load, RowMayGo}
use Rattle.dual_cert_plan.specs.declared.server.Server.{Server}
use Rattle.dual_cert_plan.specs.Sheets.{SheetParts, IsListed}
use Rattle.dual_cert_plan.specs.Plans.{PlanParts, servers_of, groups_of}
use Rattle.cert_check.specs.Verdict.{room, IsMadeFor, IsPermitted, IsWithinCapacity, IsShown, cost_of, worth_of, least_of, same_server, same_group, is_made_for, is_permitted, is_within_capacity, is_shown}
use Rattle.cert_check.proofs.Loads.{load-past}

server_of : List ℕ → Option ℕ → Server
server_of name capacity = record { name = name; capacity = capacity }

server-fields : (a b : Server) → a.name ≡ b.name → a.capacity ≡ b.capacity → a ≡ b
unfolding server_of
server-fields a b name capacity = let e : server_of a.name a.capacity ≡ server_of b.name b.capacity = rw (name, capacity) refl in e

pub Decides-same_server : (a b : Server) → Decides (same_server a b) (a ≡ b)
Decides-same_server a b = (
  λ same.
      let parts = and_parts (pointwise nat_eq a.name b.name) (option_eq nat_eq a.capacity b.capacity) same in
      server-fields a b ((bytes_eq-Decides a.name b.name).0 parts.0) (same_place-true a.capacity b.capacity parts.1),
  λ same.
      rw same (and_from (pointwise nat_eq b.name b.name) (option_eq nat_eq b.capacity b.capacity) ((bytes_eq-Decides b.name b.name).1 refl) (same_place-refl b.capacity)),
)

group_with : PinKind → ℕ → Group
group_with kind count = record { kind = kind; count = count }

group-fields : (a b : Group) → a.kind ≡ b.kind → a.count ≡ b.count → a ≡ b
unfolding group_with
group-fields a b kind count = let e : group_with a.kind a.count ≡ group_with b.kind b.count = rw (kind, count) refl in e

pub Decides-same_group : (a b : Group) → Decides (same_group a b) (a ≡ b)
Decides-same_group a b = (
  λ same.
      let parts = and_parts (same_kind a.kind b.kind) (eqb a.count b.count) same in
      group-fields a b (same_kind-true a.kind b.kind parts.0) (eqb-true a.count b.count parts.1),
  λ same. rw same (and_from (same_kind b.kind b.kind) (eqb b.count b.count) (same_kind-refl b.kind) (eq-eqb b.count b.count refl)),
)

pub Decides-is_made_for : (sheet : SheetParts) (plan : PlanParts) → Decides (is_made_for sheet plan) (IsMadeFor sheet plan)
Decides-is_made_for sheet plan =
    let servers = slice_eq-Decides Decides-same_server (servers_of plan.servers) sheet.servers (pointwise same_server (servers_of plan.servers) sheet.servers) refl in
    let groups = slice_eq-Decides Decides-same_group (groups_of plan.rows) sheet.groups (pointwise same_group (groups_of plan.rows) sheet.groups) refl in
    Decides-like (is_made_for sheet plan) (λ both. record { servers = both.0; groups = both.1 }) (λ made. (made.servers, made.groups))
    (Decides-and (pointwise same_server (servers_of plan.servers) sheet.servers) (pointwise same_group (groups_of plan.rows) sheet.groups) servers groups)

pub Decides-is_permitted : (plan : PlanParts) → Decides (is_permitted plan) (IsPermitted plan)
Decides-is_permitted plan =
    Decides-by_and (λ (r : Row). may_go r.kind r.new_place) RowMayGo (list_all (λ (r : Row). may_go r.kind r.new_place)) (λ r. (λ e. e, λ e. e)) refl (λ _ _. refl) plan.rows

Decides-leb : (a b : ℕ) → Decides (leb a b) (a ≤ b)
Decides-leb a b = (leb-true a b, le-leb a b)

-- of the servers that there are
fits_each : SheetParts → PlanParts → ℕ → Type 0
fits_each sheet plan s = rows_load plan.rows s ≤ room sheet.servers s

decided : (sheet : SheetParts) (plan : PlanParts) → Decides (is_within_capacity sheet plan) (All (fits_each sheet plan) (range_with_len 0 (length sheet.servers)))
unfolding fits_each
decided sheet plan =
    Decides-by_and (λ s. leb (rows_load plan.rows s) (room sheet.servers s)) (fits_each sheet plan)
    (list_all (λ s. leb (rows_load plan.rows s) (room sheet.servers s)))
    (λ s. Decides-leb (rows_load plan.rows s) (room sheet.servers s)) refl (λ _ _. refl) (range_with_len 0 (length sheet.servers))

pub is_within_capacity-from : (sheet : SheetParts) (plan : PlanParts) → IsWithinCapacity sheet plan → is_within_capacity sheet plan ≡ true
unfolding fits_each
is_within_capacity-from sheet plan all =
    let n = length sheet.servers in
    (decided sheet plan).1 (All-from_get_or (fits_each sheet plan) (range_with_len 0 n) 0 (λ i within. all (get_or (range_with_len 0 n) i 0)))

pub Decides-is_within_capacity : (sheet : SheetParts) (plan : PlanParts) → IsMadeFor sheet plan → All (λ r. IsListed (servers_of plan.servers) r.new_place) plan.rows
    → Decides (is_within_capacity sheet plan) (IsWithinCapacity sheet plan)
unfolding fits_each
Decides-is_within_capacity sheet plan made listed =
    (λ passed. everywhere ((decided sheet plan).0 passed), is_within_capacity-from sheet plan)
  where
    n : ℕ
    n = length sheet.servers

    here : All (λ r. IsListed sheet.servers r.new_place) plan.rows
    here = rw made.servers at listed

    everywhere : All (fits_each sheet plan) (range_with_len 0 n) → IsWithinCapacity sheet plan
    everywhere all s =
        elim (cases_lt s n) [
          | inl below ↦
              let there = All-get_or (fits_each sheet plan) (range_with_len 0 n) s 0 (omega (arith, length-range_with_len 0 n)) all in
              let is : get_or (range_with_len 0 n) s 0 ≡ s = get_or-range_with_len 0 n s 0 below ∙ omega arith in
              rw is at there
          | inr past ↦ let none = load-past sheet.servers plan.rows s here past in omega arith
        ]

pub Decides-is_shown : (sheet : SheetParts) (plan : PlanParts) → Decides (is_shown sheet plan) (IsShown sheet plan)
Decides-is_shown sheet plan = Decides-eqb (cost_of plan + worth_of sheet plan) (least_of plan)
