use Rattle.std.proofs.Common.{Result, Ok, Err, Option, refl}
use Rattle.std.specs.Prelude.{◌↔◌, IfOk, IsSome}
use Rattle.pin_groups_spread.specs.Accepted.{IsAcceptedFor}
use Rattle.haproxy_farm.specs.Farms.{CanBeFarm, farm_of}
use Rattle.haproxy_farm.proofs.plans.places_by.Goals as goal

with_first : {V E : Type 0} (r : Result (Option V) E) (A B : Type 0) → A → IfOk r (λ found. IsSome found ↔ B)
    → IfOk r (λ found. IsSome found ↔ (A × B))
with_first (Ok found) A B a h = (λ yes. (a, h.0 yes), λ both. h.1 both.1)
with_first (Err e) A B a h = h

pub returns-clause-some : goal.returns-clause-some
returns-clause-some c =
    let same = rw c.in-Some.is at c.in_ok-view.ensures.exact in
    let farm = rw c.in-Some.is at c.in_ok-view.ensures.some in
    with_first c.spread_best.result (CanBeFarm c.args.usable c.args.servers.now c.args.places.now) (IsAcceptedFor (farm_of c.args.usable c.args.servers.now c.args.places.now) c.args.plan.now) (farm.0 refl)
    (rw same at c.spread_best.ensures.some)

pub returns-clause-agrees : goal.returns-clause-agrees
returns-clause-agrees c =
    let same = rw c.in-Some.is at c.in_ok-view.ensures.exact in
    rw same at c.spread_best.ensures.agrees

pub returns-clause-best : goal.returns-clause-best
returns-clause-best c =
    let same = rw c.in-Some.is at c.in_ok-view.ensures.exact in
    rw same at c.spread_best.ensures.best
