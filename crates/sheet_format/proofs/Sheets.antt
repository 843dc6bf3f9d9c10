-- Groups that are added up, and the sheet that they make.
use Rattle.std.proofs.Common.{◌≡◌, ℕ, ◌+◌, ◌^◌, ◌<◌, ◌≤◌, Bool, true, false, cond, Option, Some, None, List, [], ◌∷◌, length, get_or, set, take, sum_by, refl, sym, ap, subst, ◌∙◌, arith}
use Rattle.std.specs.List.{All}
use Rattle.std.specs.Option.{ForSome, unwrap_or}
use Rattle.std.proofs.lemmas.List.Sums.{sum_by-cons, sum_by_more, sum_by-set, sum_by-take-le, get_or-le-sum_by}
use Rattle.lb_types_pins.specs.declared.kind.PinKind.{PinKind}
use Rattle.lb_types_pins.specs.declared.kind.Group.{Group}
use Rattle.lb_types_pins.specs.Kinds.{same_kind}
use Rattle.lb_types_pins.proofs.Order.{same_kind-refl}
use Rattle.dual_cert_plan.specs.declared.server.Server.{Server}
use Rattle.dual_cert_plan.specs.Sheets.{SheetParts, IsSheet, sheet_of_parts, AreServers, IsKind}
use Rattle.pin_set.specs.Rows.{count_in}
use Rattle.cert_check_law.proofs.Agreeing.{same_kind_is}
use Rattle.cert_check_law.proofs.Weights.{holds_where_heavy}
use Rattle.pin_groups.specs.Rising.{AreRising}
use Rattle.pin_groups.proofs.Tally.{same_from_counts}
use Rattle.sheet_format.specs.Meanings.{IsOf, Means}
use Rattle.sheet_format.specs.Texts.{Said}

-- what a group has of a kind
abbrev part : PinKind → Group → ℕ
part kind g = cond (same_kind kind g.kind) g.count 0

part_le : (b : Bool) (n : ℕ) → cond b n 0 ≤ n
part_le true n = omega arith
part_le false n = omega arith

part_none : (b : Bool) → cond {A = ℕ} b 0 0 ≡ 0
part_none true = refl
part_none false = refl

-- ---- groups that are added up, one by one

pub more_pins : (groups : List Group) (i : ℕ) (g : Group) → i < length groups → g ≡ get_or groups i g
    → sum_by (λ h. h.count) (take (i + 1) groups) ≡ sum_by (λ h. h.count) (take i groups) + g.count
more_pins groups i g within is =
    let here = ap (λ (h : Group). h.count) is in
    omega (arith, sum_by_more (λ (h : Group). h.count) groups i g within)

pub more_counted : (groups : List Group) (i : ℕ) (g : Group) (kind : PinKind) → i < length groups → g ≡ get_or groups i g
    → count_in (take (i + 1) groups) kind ≡ count_in (take i groups) kind + cond (same_kind kind g.kind) g.count 0
more_counted groups i g kind within is =
    let here = ap (part kind) is in
    omega (arith, sum_by_more (part kind) groups i g within)

pub fits_counted : (groups all : List Group) (i : ℕ) (g : Group) → i < length groups → g ≡ get_or groups i g → sum_by (λ h. h.count) groups ≤ 16777216
    → ((kind : PinKind) → count_in all kind ≡ count_in (take i groups) kind) → count_in all g.kind + g.count ≤ 16777216
fits_counted groups all i g within is few so_far =
    let more = more_counted groups i g g.kind within is in
    let own : cond (same_kind g.kind g.kind) g.count 0 ≡ g.count = rw (same_kind-refl g.kind) refl in
    let front = sum_by-take-le (part g.kind) groups (i + 1) in
    omega (arith, so_far g.kind, parts_le g.kind groups)
  where
    parts_le : (kind : PinKind) (gs : List Group) → sum_by (part kind) gs ≤ sum_by (λ (h : Group). h.count) gs
    parts_le kind [] = omega arith
    parts_le kind (h ∷ gs) =
        let here = part_le (same_kind kind h.kind) h.count in
        omega (arith, parts_le kind gs, sum_by-cons (part kind) h gs, sum_by-cons (λ (e : Group). e.count) h gs)

pub put_counted : (groups all new : List Group) (i : ℕ) (g : Group) → i < length groups → g ≡ get_or groups i g
    → ((kind : PinKind) → count_in all kind ≡ count_in (take i groups) kind)
    → ((kind : PinKind) → count_in new kind ≡ count_in all kind + cond (same_kind kind g.kind) g.count 0)
    → (kind : PinKind) → count_in new kind ≡ count_in (take (i + 1) groups) kind
put_counted groups all new i g within is so_far put kind = omega (arith, put kind, so_far kind, more_counted groups i g kind within is)

pub skip_counted : (groups all : List Group) (i : ℕ) (g : Group) → i < length groups → g ≡ get_or groups i g → g.count ≡ 0
    → ((kind : PinKind) → count_in all kind ≡ count_in (take i groups) kind)
    → (kind : PinKind) → count_in all kind ≡ count_in (take (i + 1) groups) kind
skip_counted groups all i g within is none so_far kind =
    let nothing : cond (same_kind kind g.kind) g.count 0 ≡ 0 = rw none (part_none (same_kind kind g.kind)) in
    omega (arith, so_far kind, more_counted groups i g kind within is)

-- ---- a group that grows

pub total_grown : (groups : List Group) (at : ℕ) (old more : Group) → at < length groups → old ≡ get_or groups at old
    → sum_by (λ h. h.count) (set groups at (record { kind = old.kind; count = old.count + more.count })) ≡ sum_by (λ h. h.count) groups + more.count
total_grown groups at old more below is_old =
    let grown : Group = record { kind = old.kind; count = old.count + more.count } in
    let all = sum_by-set (λ (h : Group). h.count) groups at grown old below in
    let before = ap (λ (h : Group). h.count) (sym is_old) in
    omega arith

-- ---- the sheet

early_or : (version : Option ℕ) → ForSome version (λ v. v ≤ 2 ^ 63) → unwrap_or version 0 ≤ 2 ^ 63
early_or None early = omega arith
early_or (Some v) early = early v refl

pub lawful_sheet : (version : Option ℕ) (servers : List Server) (groups all : List Group) → ForSome version (λ v. v ≤ 2 ^ 63) → AreServers servers
    → All (λ g. IsKind servers g.kind) groups → sum_by (λ g. g.count) groups ≤ 16777216 → AreRising all → ((kind : PinKind) → count_in all kind ≡ count_in groups kind)
    → sum_by (λ g. g.count) all ≡ sum_by (λ g. g.count) groups → IsSheet (sheet_of_parts (unwrap_or version 0) servers all)
lawful_sheet version servers groups all early lawful kinds few rising counts total =
    record {
      version = early_or version early;
      servers = lawful;
      kinds = λ i d below.
          let g = get_or all i d in
          let here : cond (same_kind g.kind g.kind) g.count 0 ≡ g.count = rw (same_kind-refl g.kind) refl in
          let within = get_or-le-sum_by (part g.kind) all i d below in
          holds_where_heavy same_kind same_kind_is (IsKind servers) (λ (h : Group). h.kind) (λ (h : Group). h.count) groups g.kind kinds
          (omega (arith, rising.counted i d below, counts g.kind));
      counted = rising.counted;
      total = omega arith;
      rising = rising.rising;
    }

-- ---- one sheet for a text

sheet_from : ℕ → List Server → List Group → SheetParts
sheet_from version servers groups = record { version = version; servers = servers; groups = groups }

one_of : (said : Said) (a b : SheetParts) → IsSheet a → IsSheet b → IsOf said a → IsOf said b → a ≡ b
unfolding sheet_from
one_of said a b a_lawful b_lawful a_of b_of =
    let versions : a.version ≡ b.version = a_of.version ∙ sym b_of.version in
    let servers : a.servers ≡ b.servers = a_of.servers ∙ sym b_of.servers in
    let groups : a.groups ≡ b.groups =
    same_from_counts a.groups b.groups (record { rising = a_lawful.rising; counted = a_lawful.counted }) (record { rising = b_lawful.rising; counted = b_lawful.counted })
    (λ kind. a_of.counts kind ∙ sym (b_of.counts kind)) in
    let e : sheet_from a.version a.servers a.groups ≡ sheet_from b.version b.servers b.groups = rw (versions, servers, groups) refl in
    e

pub one_sheet : (text : List ℕ) (a b : SheetParts) → IsSheet a → IsSheet b → Means text a → Means text b → a ≡ b
one_sheet text a b a_lawful b_lawful a_means b_means =
    let same : a_means.said ≡ b_means.said = (let e = sym a_means.read ∙ b_means.read in cc) in
    one_of a_means.said a b a_lawful b_lawful a_means.is_of (subst (λ s. IsOf s b) (sym same) b_means.is_of)
