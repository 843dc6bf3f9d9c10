-- What the verdict says of a plan, and the verdict from what is known of a plan.
use Rattle.std.proofs.Common.{◌≡◌, ◌↔◌, Bool, true, false, not, cond, Decides, refl}
use Rattle.std.specs.Prelude.{Result, Ok, Err, IsOk, IfOk, IsErrOf}
use Rattle.std.specs.List.{All}
use Rattle.std.proofs.lemmas.Bool.{false≢true}
use Rattle.pin_set.specs.declared.totals.Score.{Score}
use Rattle.pin_set.specs.Rows.{rows_score}
use Rattle.dual_cert_plan.specs.Sheets.{SheetParts, IsListed}
use Rattle.dual_cert_plan.specs.Plans.{PlanParts, servers_of}
use Rattle.cert_check.specs.declared.fault.CheckFault.{CheckFault}
use Rattle.cert_check.specs.declared.fault.CheckFault.TheVariants.{RowsDiffer, NotPermitted, OverCapacity, NotShown}
use Rattle.cert_check.specs.Verdict.{IsMadeFor, IsPermitted, IsWithinCapacity, IsShown, is_made_for, is_permitted, is_within_capacity, is_shown, verdict}
use Rattle.cert_check.proofs.Decided.{Decides-is_made_for, Decides-is_permitted, is_within_capacity-from, Decides-is_within_capacity, Decides-is_shown}

abbrev first_of : Bool → Bool → Bool → Bool → Score → Result Score CheckFault
first_of p q r s score = cond (not p) (Err RowsDiffer) (cond (not q) (Err NotPermitted) (cond (not r) (Err OverCapacity) (cond (not s) (Err NotShown) (Ok score))))

rows_differ-first : {P : Type 0} (p q r s : Bool) (score : Score) → Decides p P → (first_of p q r s score ≡ Err RowsDiffer) ↔ ¬ P
rows_differ-first false q r s score d = (λ e is. absurd (false≢true (d.1 is)), λ no. refl)
rows_differ-first true false r s score d = (λ e. absurd cc, λ no. absurd (no (d.0 refl)))
rows_differ-first true true false s score d = (λ e. absurd cc, λ no. absurd (no (d.0 refl)))
rows_differ-first true true true false score d = (λ e. absurd cc, λ no. absurd (no (d.0 refl)))
rows_differ-first true true true true score d = (λ e. absurd cc, λ no. absurd (no (d.0 refl)))

not_permitted-first : {P Q : Type 0} (p q r s : Bool) (score : Score) → Decides p P → Decides q Q → (first_of p q r s score ≡ Err NotPermitted) ↔ (P × ¬ Q)
not_permitted-first false q r s score d e = (λ same. absurd cc, λ known. absurd (false≢true (d.1 known.0)))
not_permitted-first true false r s score d e = (λ same. (d.0 refl, λ is. false≢true (e.1 is)), λ known. refl)
not_permitted-first true true false s score d e = (λ same. absurd cc, λ known. absurd (known.1 (e.0 refl)))
not_permitted-first true true true false score d e = (λ same. absurd cc, λ known. absurd (known.1 (e.0 refl)))
not_permitted-first true true true true score d e = (λ same. absurd cc, λ known. absurd (known.1 (e.0 refl)))

over_capacity-first : {P Q R : Type 0} (p q r s : Bool) (score : Score) → Decides p P → Decides q Q → (P → Decides r R)
    → (first_of p q r s score ≡ Err OverCapacity) ↔ (P × Q × ¬ R)
over_capacity-first false q r s score d e f = (λ same. absurd cc, λ known. absurd (false≢true (d.1 known.0)))
over_capacity-first true false r s score d e f = (λ same. absurd cc, λ known. absurd (false≢true (e.1 known.1)))
over_capacity-first true true false s score d e f = (λ same. (d.0 refl, e.0 refl, λ is. false≢true ((f (d.0 refl)).1 is)), λ known. refl)
over_capacity-first true true true false score d e f = (λ same. absurd cc, λ known. absurd (known.2 ((f (d.0 refl)).0 refl)))
over_capacity-first true true true true score d e f = (λ same. absurd cc, λ known. absurd (known.2 ((f (d.0 refl)).0 refl)))

not_shown-first : {P Q R S : Type 0} (p q r s : Bool) (score : Score) → Decides p P → Decides q Q → (P → Decides r R) → Decides s S
    → (first_of p q r s score ≡ Err NotShown) ↔ (P × Q × R × ¬ S)
not_shown-first false q r s score d e f g = (λ same. absurd cc, λ known. absurd (false≢true (d.1 known.0)))
not_shown-first true false r s score d e f g = (λ same. absurd cc, λ known. absurd (false≢true (e.1 known.1)))
not_shown-first true true false s score d e f g = (λ same. absurd cc, λ known. absurd (false≢true ((f (d.0 refl)).1 known.2)))
not_shown-first true true true false score d e f g = (λ same. (d.0 refl, e.0 refl, (f (d.0 refl)).0 refl, λ is. false≢true (g.1 is)), λ known. refl)
not_shown-first true true true true score d e f g = (λ same. absurd cc, λ known. absurd (known.3 (g.0 refl)))

ok-first : {P Q R S : Type 0} (p q r s : Bool) (score : Score) → Decides p P → Decides q Q → (P → Decides r R) → Decides s S
    → IsOk (first_of p q r s score) ↔ (P × Q × R × S)
ok-first false q r s score d e f g = (λ ok. absurd cc, λ known. absurd (false≢true (d.1 known.0)))
ok-first true false r s score d e f g = (λ ok. absurd cc, λ known. absurd (false≢true (e.1 known.1)))
ok-first true true false s score d e f g = (λ ok. absurd cc, λ known. absurd (false≢true ((f (d.0 refl)).1 known.2)))
ok-first true true true false score d e f g = (λ ok. absurd cc, λ known. absurd (false≢true (g.1 known.3)))
ok-first true true true true score d e f g = (λ ok. (d.0 refl, e.0 refl, (f (d.0 refl)).0 refl, g.0 refl), λ known. refl)

score-first : (p q r s : Bool) (score : Score) → IfOk (first_of p q r s score) (λ answered. answered ≡ score)
score-first false q r s score = tt
score-first true false r s score = tt
score-first true true false s score = tt
score-first true true true false score = tt
score-first true true true true score = refl

-- ---- what the verdict says

pub rows_differ-means : (sheet : SheetParts) (plan : PlanParts) → IsErrOf (verdict sheet plan) RowsDiffer ↔ ¬ IsMadeFor sheet plan
unfolding verdict
rows_differ-means sheet plan =
    rows_differ-first (is_made_for sheet plan) (is_permitted plan) (is_within_capacity sheet plan) (is_shown sheet plan) (rows_score plan.rows) (Decides-is_made_for sheet plan)

pub not_permitted-means : (sheet : SheetParts) (plan : PlanParts) → IsErrOf (verdict sheet plan) NotPermitted ↔ (IsMadeFor sheet plan × ¬ IsPermitted plan)
unfolding verdict
not_permitted-means sheet plan =
    not_permitted-first (is_made_for sheet plan) (is_permitted plan) (is_within_capacity sheet plan) (is_shown sheet plan) (rows_score plan.rows)
    (Decides-is_made_for sheet plan) (Decides-is_permitted plan)

pub over_capacity-means : (sheet : SheetParts) (plan : PlanParts) → All (λ r. IsListed (servers_of plan.servers) r.new_place) plan.rows
    → IsErrOf (verdict sheet plan) OverCapacity ↔ (IsMadeFor sheet plan × IsPermitted plan × ¬ IsWithinCapacity sheet plan)
unfolding verdict
over_capacity-means sheet plan listed =
    over_capacity-first (is_made_for sheet plan) (is_permitted plan) (is_within_capacity sheet plan) (is_shown sheet plan) (rows_score plan.rows)
    (Decides-is_made_for sheet plan) (Decides-is_permitted plan) (λ made. Decides-is_within_capacity sheet plan made listed)

pub not_shown-means : (sheet : SheetParts) (plan : PlanParts) → All (λ r. IsListed (servers_of plan.servers) r.new_place) plan.rows
    → IsErrOf (verdict sheet plan) NotShown ↔ (IsMadeFor sheet plan × IsPermitted plan × IsWithinCapacity sheet plan × ¬ IsShown sheet plan)
unfolding verdict
not_shown-means sheet plan listed =
    not_shown-first (is_made_for sheet plan) (is_permitted plan) (is_within_capacity sheet plan) (is_shown sheet plan) (rows_score plan.rows)
    (Decides-is_made_for sheet plan) (Decides-is_permitted plan) (λ made. Decides-is_within_capacity sheet plan made listed) (Decides-is_shown sheet plan)

pub ok-means : (sheet : SheetParts) (plan : PlanParts) → All (λ r. IsListed (servers_of plan.servers) r.new_place) plan.rows
    → IsOk (verdict sheet plan) ↔ (IsMadeFor sheet plan × IsPermitted plan × IsWithinCapacity sheet plan × IsShown sheet plan)
unfolding verdict
ok-means sheet plan listed =
    ok-first (is_made_for sheet plan) (is_permitted plan) (is_within_capacity sheet plan) (is_shown sheet plan) (rows_score plan.rows)
    (Decides-is_made_for sheet plan) (Decides-is_permitted plan) (λ made. Decides-is_within_capacity sheet plan made listed) (Decides-is_shown sheet plan)

pub score-means : (sheet : SheetParts) (plan : PlanParts) → IfOk (verdict sheet plan) (λ score. score ≡ rows_score plan.rows)
unfolding verdict
score-means sheet plan = score-first (is_made_for sheet plan) (is_permitted plan) (is_within_capacity sheet plan) (is_shown sheet plan) (rows_score plan.rows)

-- ---- the verdict from what is known of a plan

-- a plan of which all four facts hold is answered with its score
pub verdict-accepts : (sheet : SheetParts) (plan : PlanParts) → IsMadeFor sheet plan → IsPermitted plan → IsWithinCapacity sheet plan → IsShown sheet plan
    → verdict sheet plan ≡ Ok (rows_score plan.rows)
unfolding verdict
verdict-accepts sheet plan made permitted within shown =
    rw ((Decides-is_made_for sheet plan).1 made, (Decides-is_permitted plan).1 permitted, is_within_capacity-from sheet plan within, (Decides-is_shown sheet plan).1 shown) refl
