-- The network of a sheet keeps what every network keeps.
use Rattle.std.proofs.Common.{◌≡◌, get_or, ℕ, zero, suc, ◌*◌, ◌≤◌, List, [], ◌∷◌, map, length, refl, arith}
use Rattle.std.specs.Prelude.{unwrap_or}
use Rattle.std.specs.List.{sum_by, All}
use Rattle.std.proofs.lemmas.List.{length-map}
use Rattle.std.proofs.lemmas.List.Sums.{sum_by-cons}
use Rattle.std.proofs.lemmas.List.Elements.{All-head, All-tail, All-weaker}
use Rattle.std.proofs.Math.Nat.{mul-le-mul_right}
use Rattle.lb_types_pins.specs.declared.kind.Group.{Group}
use Rattle.dual_cert_plan.specs.declared.server.Server.{Server}
use Rattle.dual_cert_plan.specs.Sheets.{SheetParts, IsSheet, IsKind}
use Rattle.cert_check.specs.Verdict.{room}
use Rattle.cert_check_law.proofs.Sums.{weighted-below}
use Rattle.flow_planner_net.specs.Networks.{IsNetwork, options, capacity}
use Rattle.flow_planner_law.specs.Accepted.{network_of}

abbrev room_of : Server → ℕ
room_of s = unwrap_or s.capacity 0

pub options-of : (sheet : SheetParts) → options (network_of sheet) ≡ suc (length sheet.servers)
options-of sheet = let mapped = length-map sheet.servers room_of in omega arith

-- the option after a server's number has the server's room
room-there : (servers : List Server) (s : ℕ) → get_or (map room_of servers) s 0 ≡ room servers s
room-there [] s = refl
room-there (x ∷ servers) zero = refl
room-there (x ∷ servers) (suc s) = room-there servers s

pub capacity-room : (sheet : SheetParts) (s : ℕ) → capacity (network_of sheet) (suc s) ≡ room sheet.servers s
unfolding capacity
capacity-room sheet s = room-there sheet.servers s

-- each has at least one, so there are no more of them than the sum
length-le-sum : (groups : List Group) → All (λ g. 1 ≤ g.count) groups → length groups ≤ sum_by (λ g. g.count) groups
length-le-sum [] counted = omega arith
length-le-sum (g ∷ groups) counted =
    let here = All-head (λ (h : Group). 1 ≤ h.count) g groups counted in
    let rest = length-le-sum groups (All-tail (λ (h : Group). 1 ≤ h.count) g groups counted) in
    omega (arith, here, rest, sum_by-cons (λ (h : Group). h.count) g groups)

pub network-lawful : (sheet : SheetParts) → IsSheet sheet → IsNetwork (network_of sheet)
network-lawful sheet lawful =
    let cheap : All (λ g. g.kind.cost ≤ 1000) sheet.groups =
    All-weaker (λ (g : Group). IsKind sheet.servers g.kind) (λ (g : Group). g.kind.cost ≤ 1000) (λ g kind. kind.cost_to) sheet.groups lawful.kinds in
    let moves = weighted-below (λ (g : Group). g.count) (λ (g : Group). g.kind.cost) 1000 sheet.groups cheap in
    let most : sum_by (λ (g : Group). g.count) sheet.groups * 1000 ≤ 16777216 * 1000 = mul-le-mul_right 1000 lawful.total in
    record {
      some = omega arith;
      few_options = omega (arith, options-of sheet, lawful.servers.few);
      few_groups = omega (arith, length-le-sum sheet.groups lawful.counted, lawful.total);
      few_pins = lawful.total;
      cheap = cheap;
      low = omega (arith, moves, most);
      endless = omega arith;
    }
