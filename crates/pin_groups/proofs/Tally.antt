-- A sheet of counts stands for each view with these counts, and a view has one sheet.
use Rattle.std.proofs.Common.{◌≡◌, ℕ, zero, suc, ◌+◌, ◌*◌, ◌<◌, ◌≤◌, Bool, true, false, cond, List, [], ◌∷◌, map, length, get_or, take, refl, sym, ap, ◌∙◌, arith}
use Rattle.std.specs.List.{sum_by, AllPairs}
use Rattle.std.proofs.lemmas.List.{length-map}
use Rattle.std.proofs.lemmas.List.Sums.{sum_by-cons, sum_by_more, sum_by-take-le}
use Rattle.std.proofs.lemmas.List.Elements.{All-tail}
use Rattle.lb_types_pins.specs.declared.kind.PinKind.{PinKind}
use Rattle.lb_types_pins.specs.declared.kind.Group.{Group}
use Rattle.lb_types_pins.specs.Kinds.{kind_before, same_kind}
use Rattle.lb_types_pins.proofs.Order.{same_kind-true, same_kind-refl, kind_before-irrefl, kind_before-trans, kind_before-total}
use Rattle.dual_cert_plan.specs.declared.server.Server.{Server}
use Rattle.dual_cert_plan.specs.Sheets.{SheetParts}
use Rattle.pin_set.specs.declared.pin.Pin.{Pin}
use Rattle.pin_set.specs.declared.view.ViewServer.{ViewServer}
use Rattle.pin_set.specs.Pins.{permitted}
use Rattle.pin_set.specs.Views.{ViewParts, IsView, kind_of, kinds_of}
use Rattle.pin_set.specs.Rows.{AreGroupsOf, count_in}
use Rattle.cert_check_law.proofs.Agreeing.{same_kind_is, length-ones}
use Rattle.cert_check_law.proofs.Weights.{sum_by-same, sum_by-weights}
use Rattle.pin_set.specs.declared.pin_count.PinCount.{PinCount}
use Rattle.pin_groups.specs.Counts.{AreGroupsOfCounts, HasCounts, OneSheetForAView, counted_kind}
use Rattle.pin_groups.specs.Rising.{Before, AreRising}

-- place, wanted servers and cost stand in a kind, the wanted servers where the permitted ones would be
abbrev wanted_kind : Pin → PinKind
wanted_kind pin = record { place = pin.place; permitted = pin.id.want; cost = pin.cost }

abbrev wanted_count : PinCount → PinKind
wanted_count c = record { place = c.place; permitted = c.want; cost = c.cost }

-- the kind that comes of it
abbrev made_kind : ℕ → PinKind → PinKind
made_kind usable wanted = record { place = wanted.place; permitted = permitted wanted.permitted usable; cost = wanted.cost }

sum_by-map : {X Y : Type 0} (f : Y → ℕ) (g : X → Y) (xs : List X) → sum_by f (map g xs) ≡ sum_by (λ x. f (g x)) xs
sum_by-map f g [] = refl
sum_by-map f g (x ∷ xs) =
    omega (arith, sum_by-cons f (g x) (map g xs), sum_by-cons (λ y. f (g y)) x xs, sum_by-map f g xs)

times_test : (b : Bool) (n : ℕ) → n * cond b 1 0 ≡ cond b n 0
times_test true n = omega arith
times_test false n = omega arith

-- a sum over the pins of what place, wanted servers and cost decide
pub sum-counts : (usable : ℕ) (servers : List ViewServer) (counts : List PinCount) (view : ViewParts) (f : PinKind → ℕ)
    → HasCounts usable servers counts view → sum_by f (map wanted_kind view.pins) ≡ sum_by (λ c. c.count * f (wanted_count c)) counts
sum-counts usable servers counts view f has =
    sum_by-weights same_kind same_kind_is wanted_count (λ (c : PinCount). c.count) counts (map wanted_kind view.pins) f
    (λ kind. sum_by-map (λ (k : PinKind). cond (same_kind kind k) 1 0) wanted_kind view.pins ∙ has.same_counts kind.place kind.permitted kind.cost)

-- groups with as many pins of each kind as the counts are those of the view
pub groups-counted : (usable : ℕ) (servers : List ViewServer) (counts : List PinCount) (view : ViewParts) (groups : List Group)
    → HasCounts usable servers counts view
    → AreGroupsOfCounts usable groups counts → AreGroupsOf groups (kinds_of view)
groups-counted usable servers counts view groups has counted kind =
    let f : PinKind → ℕ = λ k. cond (same_kind kind k) 1 0 in
    let g : PinKind → ℕ = λ k. f (made_kind usable k) in
    let pins : sum_by f (map (kind_of view.usable) view.pins) ≡ sum_by g (map wanted_kind view.pins) =
    rw has.same_usable (sum_by-map f (kind_of usable) view.pins ∙ sym (sum_by-map g wanted_kind view.pins)) in
    pins
    ∙ (sum-counts usable servers counts view g has
    ∙ (sum_by-same (λ (c : PinCount). c.count * g (wanted_count c)) (λ (c : PinCount). cond (same_kind kind (counted_kind usable c)) c.count 0) counts
    (λ c. times_test (same_kind kind (counted_kind usable c)) c.count)
    ∙ counted kind))

-- a view's counts are together its pins
pub counts-few : (usable : ℕ) (servers : List ViewServer) (counts : List PinCount) (view : ViewParts) → IsView view → HasCounts usable servers counts view
    → sum_by (λ c. c.count) counts ≤ 16777216
counts-few usable servers counts view lawful has =
    let ones = length-ones (map wanted_kind view.pins) in
    let long = length-map view.pins wanted_kind in
    let all = sum-counts usable servers counts view (λ kind. 1) has in
    let same = sum_by-same (λ (c : PinCount). c.count * 1) (λ (c : PinCount). c.count) counts (λ c. omega arith) in
    omega (arith, lawful.few_pins)

-- ---- the counts, one by one

-- what a count adds to a kind
abbrev pub tally : ℕ → PinKind → PinCount → ℕ
tally usable kind c = cond (same_kind kind (counted_kind usable c)) c.count 0

abbrev pub TalliedTo : ℕ → List PinCount → ℕ → List Group → Type 0
TalliedTo usable counts i groups = (kind : PinKind) → sum_by (tally usable kind) (take i counts) ≡ count_in groups kind

tally-le : (b : Bool) (n : ℕ) → cond b n 0 ≤ n
tally-le true n = omega arith
tally-le false n = omega arith

tally-none : (b : Bool) (n : ℕ) → n ≡ 0 → cond b n 0 ≡ 0
tally-none true n none = none
tally-none false n none = refl

pub tally_more : (usable : ℕ) (counts : List PinCount) (i : ℕ) (c : PinCount) (kind : PinKind) → i < length counts → c ≡ get_or counts i c
    → sum_by (tally usable kind) (take (i + 1) counts) ≡ sum_by (tally usable kind) (take i counts) + tally usable kind c
tally_more usable counts i c kind within is =
    let here = ap (tally usable kind) is in
    omega (arith, sum_by_more (tally usable kind) counts i c within)

-- the next count fits
pub tally-fits : (usable : ℕ) (counts : List PinCount) (i : ℕ) (c : PinCount) (groups : List Group) (g : Group) → i < length counts → c ≡ get_or counts i c
    → g.kind ≡ counted_kind usable c → g.count ≡ c.count → sum_by (λ c. c.count) counts ≤ 16777216 → TalliedTo usable counts i groups
    → count_in groups g.kind + g.count ≤ 16777216
tally-fits usable counts i c groups g within is kinds same few so_far =
    let more = tally_more usable counts i c g.kind within is in
    let itself : cond (same_kind g.kind g.kind) c.count 0 ≡ c.count = rw (same_kind-refl g.kind) refl in
    let own : tally usable g.kind c ≡ c.count = ap (λ (k : PinKind). cond (same_kind g.kind k) c.count 0) (sym kinds) ∙ itself in
    let part = sum_by-take-le (tally usable g.kind) counts (i + 1) in
    let all = each-le g.kind counts in
    omega (arith, so_far g.kind)
  where
    each-le : (kind : PinKind) (cs : List PinCount) → sum_by (tally usable kind) cs ≤ sum_by (λ (c : PinCount). c.count) cs
    each-le kind [] = omega arith
    each-le kind (d ∷ cs) =
        let here = tally-le (same_kind kind (counted_kind usable d)) d.count in
        omega (arith, each-le kind cs, sum_by-cons (tally usable kind) d cs, sum_by-cons (λ (e : PinCount). e.count) d cs)

pub tally_put : (usable : ℕ) (counts : List PinCount) (i : ℕ) (c : PinCount) (groups more : List Group) (g : Group) → i < length counts → c ≡ get_or counts i c
    → g.kind ≡ counted_kind usable c → g.count ≡ c.count → TalliedTo usable counts i groups
    → ((kind : PinKind) → count_in more kind ≡ count_in groups kind + cond (same_kind kind g.kind) g.count 0)
    → TalliedTo usable counts (i + 1) more
tally_put usable counts i c groups more g within is kinds same so_far put kind =
    let alike : cond (same_kind kind g.kind) g.count 0 ≡ tally usable kind c = rw (kinds, same) refl in
    omega (arith, put kind, so_far kind, tally_more usable counts i c kind within is)

pub tally_skip : (usable : ℕ) (counts : List PinCount) (i : ℕ) (c : PinCount) (groups : List Group) → i < length counts → c ≡ get_or counts i c
    → c.count ≡ 0 → TalliedTo usable counts i groups → TalliedTo usable counts (i + 1) groups
tally_skip usable counts i c groups within is none so_far kind =
    let nothing = tally-none (same_kind kind (counted_kind usable c)) c.count none in
    omega (arith, so_far kind, tally_more usable counts i c kind within is)

-- ---- rising groups are known by their counts

one_if : Bool → ℕ
one_if b = cond b 1 0

both : (b : Bool) → b ≡ false → b ≡ true → 1 ≤ 0
unfolding one_if
both b is_false is_true = let e : one_if true ≡ one_if false = ap one_if (sym is_true ∙ is_false) in omega (arith, e)

AllPairs-tail : (g : Group) (gs : List Group) → AllPairs Before (g ∷ gs) → AllPairs Before gs
AllPairs-tail g gs rising i j d below within = rising (suc i) (suc j) d (omega arith) (omega arith)

-- groups that stand behind a kind have none of it
count_in-behind : (gs : List Group) (kind : PinKind) → ((k : ℕ) (d : Group) → k < length gs → kind_before kind (get_or gs k d).kind ≡ true)
    → count_in gs kind ≡ 0
count_in-behind [] kind behind = refl
count_in-behind (g ∷ gs) kind behind =
    let here : cond (same_kind kind g.kind) g.count 0 ≡ 0 = not_same (same_kind kind g.kind) refl in
    let rest = count_in-behind gs kind (λ k d below. behind (suc k) d (omega arith)) in
    omega (arith, sum_by-cons (λ (h : Group). cond (same_kind kind h.kind) h.count 0) g gs)
  where
    not_same : (b : Bool) → same_kind kind g.kind ≡ b → cond b g.count 0 ≡ 0
    not_same false e = refl
    not_same true e =
        let alike = same_kind-true kind g.kind e in
        let before = behind 0 g (omega arith) in
        absurd (omega (arith, both (kind_before kind kind) (kind_before-irrefl kind) (ap (kind_before kind) alike ∙ before)))

abbrev group_from : PinKind → ℕ → Group
group_from kind count = record { kind = kind; count = count }

decided : (b : Bool) → (b ≡ false → 1 ≤ 0) → b ≡ true
decided true never = refl
decided false never = absurd (omega (arith, never refl))

rising_tail : (g : Group) (gs : List Group) → AreRising (g ∷ gs) → AreRising gs
rising_tail g gs rising = record {
  rising = AllPairs-tail g gs rising.rising;
  counted = All-tail (λ (h : Group). 1 ≤ h.count) g gs rising.counted;
}

-- the first group has all of its kind's pins
first_in : (g : Group) (gs : List Group) → AreRising (g ∷ gs) → count_in (g ∷ gs) g.kind ≡ g.count
first_in g gs rising =
    let here : cond (same_kind g.kind g.kind) g.count 0 ≡ g.count = rw (same_kind-refl g.kind) refl in
    let rest = count_in-behind gs g.kind (λ k d below. rising.rising 0 (suc k) d (omega arith) (omega arith)) in
    omega (arith, sum_by-cons (λ (h : Group). cond (same_kind g.kind h.kind) h.count 0) g gs)

some_in : (g : Group) (gs : List Group) → AreRising (g ∷ gs) → 1 ≤ count_in (g ∷ gs) g.kind
some_in g gs rising = omega (arith, first_in g gs rising, rising.counted 0 g (omega arith))

-- a kind before the first group has no pins
none_before : (g h : Group) (hs : List Group) → AreRising (h ∷ hs) → kind_before g.kind h.kind ≡ true → count_in (h ∷ hs) g.kind ≡ 0
none_before g h hs rising before = count_in-behind (h ∷ hs) g.kind go
  where
    go : (k : ℕ) (d : Group) → k < length (h ∷ hs) → kind_before g.kind (get_or (h ∷ hs) k d).kind ≡ true
    go zero d below = before
    go (suc k) d below = kind_before-trans g.kind h.kind (get_or hs k d).kind before (rising.rising 0 (suc k) d (omega arith) below)

pub same_from_counts : (gs hs : List Group) → AreRising gs → AreRising hs → ((kind : PinKind) → count_in gs kind ≡ count_in hs kind) → gs ≡ hs
same_from_counts [] [] g_rising h_rising same = refl
same_from_counts [] (h ∷ hs) g_rising h_rising same = absurd (omega (arith, same h.kind, some_in h hs h_rising))
same_from_counts (g ∷ gs) [] g_rising h_rising same = absurd (omega (arith, same g.kind, some_in g gs g_rising))
same_from_counts (g ∷ gs) (h ∷ hs) g_rising h_rising same =
    let alike : same_kind g.kind h.kind ≡ true =
    decided (same_kind g.kind h.kind) (λ other. split (kind_before g.kind h.kind) refl other) in
    let kinds : g.kind ≡ h.kind = same_kind-true g.kind h.kind alike in
    let in_g = first_in g gs g_rising in
    let in_h = first_in h hs h_rising in
    let counts : g.count ≡ h.count = omega (arith, same g.kind, ap (count_in (h ∷ hs)) kinds) in
    let rest = same_from_counts gs hs (rising_tail g gs g_rising) (rising_tail h hs h_rising) (λ kind.
    let one = sum_by-cons (λ (x : Group). cond (same_kind kind x.kind) x.count 0) g gs in
    let two = sum_by-cons (λ (x : Group). cond (same_kind kind x.kind) x.count 0) h hs in
    let firsts : cond (same_kind kind g.kind) g.count 0 ≡ cond (same_kind kind h.kind) h.count 0 = rw (kinds, counts) refl in
    omega (arith, same kind)) in
    same_lists (same_group kinds counts) rest
  where
    split : (b : Bool) → kind_before g.kind h.kind ≡ b → same_kind g.kind h.kind ≡ false → 1 ≤ 0
    split true e other = omega (arith, some_in g gs g_rising, same g.kind, none_before g h hs h_rising e)
    split false e other = omega (arith, some_in h hs h_rising, same h.kind, none_before h g gs g_rising (kind_before-total g.kind h.kind e other))

    same_group : g.kind ≡ h.kind → g.count ≡ h.count → g ≡ h
    same_group kinds counts = let e : group_from g.kind g.count ≡ group_from h.kind h.count = rw (kinds, counts) refl in e

    same_lists : g ≡ h → gs ≡ hs → g ∷ gs ≡ h ∷ hs
    same_lists first rest = rw (first, rest) refl

sheet_from : ℕ → List Server → List Group → SheetParts
sheet_from version servers groups = record { version = version; servers = servers; groups = groups }

pub one_sheet : OneSheetForAView
unfolding sheet_from
one_sheet view a b a_sheet b_sheet versions a_stands b_stands =
    let servers : a.servers ≡ b.servers = a_stands.servers ∙ sym b_stands.servers in
    let groups : a.groups ≡ b.groups =
    same_from_counts a.groups b.groups (record { rising = a_sheet.rising; counted = a_sheet.counted }) (record { rising = b_sheet.rising; counted = b_sheet.counted })
    (λ kind. sym (a_stands.counts kind) ∙ b_stands.counts kind) in
    let e : sheet_from a.version a.servers a.groups ≡ sheet_from b.version b.servers b.groups = rw (versions, servers, groups) refl in
    e
