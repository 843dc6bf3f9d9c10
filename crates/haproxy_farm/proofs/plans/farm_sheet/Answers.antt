use Rattle.haproxy_farm.proofs.plans.farm_sheet.Goals as goal

pub returns-clause-exact : goal.returns-clause-exact
returns-clause-exact c =
    let same = rw c.in-Some.is at c.in_ok-view.ensures.exact in
    rw same at c.in_ok-sheet.ensures.exact
