use Rattle.std.proofs.Common.{sym, ◌∙◌}
use Rattle.std.proofs.lemmas.Bool.{false≢true}
use Rattle.cert_check.specs.Verdict.{IsMadeFor, IsPermitted, IsWithinCapacity, IsShown}
use Rattle.cert_check.proofs.Best.{agreeing_from, best_from}
use Rattle.cert_check.proofs.Means.{rows_differ-means, not_permitted-means, over_capacity-means, not_shown-means, verdict-accepts}
use Rattle.cert_check.proofs.verdict.check.Goals as goal

pub returns-then-not-is_made_for-clause-exact : goal.returns-then-not-is_made_for-clause-exact
returns-then-not-is_made_for-clause-exact c =
    sym ((rows_differ-means c.args.sheet.now c.args.plan.now).1 (λ made. false≢true (sym c.if-not-is_made_for.true ∙ c.is_made_for.ensures.1 made)))

pub returns-then-not-is_permitted-clause-exact : goal.returns-then-not-is_permitted-clause-exact
returns-then-not-is_permitted-clause-exact c =
    let made = c.is_made_for.ensures.0 c.if-not-is_made_for.false in
    sym ((not_permitted-means c.args.sheet.now c.args.plan.now).1 (
      made,
      λ permitted.
          false≢true (sym c.if-not-is_permitted.true ∙ c.is_permitted.ensures.1 (rw c.rows-rows.ensures.exact permitted)),
    ))

pub returns-then-not-is_within_capacity-clause-exact : goal.returns-then-not-is_within_capacity-clause-exact
returns-then-not-is_within_capacity-clause-exact c =
    let made : IsMadeFor c.args.sheet.now c.args.plan.now = c.is_made_for.ensures.0 c.if-not-is_made_for.false in
    let permitted : IsPermitted c.args.plan.now = rw c.rows-rows.ensures.exact at (c.is_permitted.ensures.0 c.if-not-is_permitted.false) in
    sym ((over_capacity-means c.args.sheet.now c.args.plan.now c.rows-rows.ensures.lawful.new_places).1 (
      made,
      permitted,
      λ within.
          false≢true (sym c.if-not-is_within_capacity.true ∙ c.is_within_capacity.ensures.1 (rw (c.servers-servers.ensures.exact, c.rows-rows.ensures.exact, made.servers) within)),
    ))

pub returns-then-not-is_shown-clause-exact : goal.returns-then-not-is_shown-clause-exact
returns-then-not-is_shown-clause-exact c =
    let made : IsMadeFor c.args.sheet.now c.args.plan.now = c.is_made_for.ensures.0 c.if-not-is_made_for.false in
    let permitted : IsPermitted c.args.plan.now = rw c.rows-rows.ensures.exact at (c.is_permitted.ensures.0 c.if-not-is_permitted.false) in
    let within : IsWithinCapacity c.args.sheet.now c.args.plan.now =
    rw (c.servers-servers.ensures.exact, c.rows-rows.ensures.exact, made.servers) at (c.is_within_capacity.ensures.0 c.if-not-is_within_capacity.false) in
    sym ((not_shown-means c.args.sheet.now c.args.plan.now c.rows-rows.ensures.lawful.new_places).1 (
      made,
      permitted,
      within,
      λ shown.
          false≢true (sym c.if-not-is_shown.true ∙ c.is_shown.ensures.1 (rw (c.servers-servers.ensures.exact, c.rows-rows.ensures.exact, made.servers) shown)),
    ))

pub returns-clause-exact : goal.returns-clause-exact
returns-clause-exact c =
    let made : IsMadeFor c.args.sheet.now c.args.plan.now = c.is_made_for.ensures.0 c.if-not-is_made_for.false in
    let permitted : IsPermitted c.args.plan.now = rw c.rows-rows.ensures.exact at (c.is_permitted.ensures.0 c.if-not-is_permitted.false) in
    let within : IsWithinCapacity c.args.sheet.now c.args.plan.now =
    rw (c.servers-servers.ensures.exact, c.rows-rows.ensures.exact, made.servers) at (c.is_within_capacity.ensures.0 c.if-not-is_within_capacity.false) in
    let shown : IsShown c.args.sheet.now c.args.plan.now =
    rw (c.servers-servers.ensures.exact, c.rows-rows.ensures.exact, made.servers) at (c.is_shown.ensures.0 c.if-not-is_shown.false) in
    rw (c.score_of.ensures, c.rows-rows.ensures.exact) (sym (verdict-accepts c.args.sheet.now c.args.plan.now made permitted within shown))

pub returns-clause-best : goal.returns-clause-best
returns-clause-best c =
    let made : IsMadeFor c.args.sheet.now c.args.plan.now = c.is_made_for.ensures.0 c.if-not-is_made_for.false in
    let permitted : IsPermitted c.args.plan.now = rw c.rows-rows.ensures.exact at (c.is_permitted.ensures.0 c.if-not-is_permitted.false) in
    let within : IsWithinCapacity c.args.sheet.now c.args.plan.now =
    rw (c.servers-servers.ensures.exact, c.rows-rows.ensures.exact, made.servers) at (c.is_within_capacity.ensures.0 c.if-not-is_within_capacity.false) in
    let shown : IsShown c.args.sheet.now c.args.plan.now =
    rw (c.servers-servers.ensures.exact, c.rows-rows.ensures.exact, made.servers) at (c.is_shown.ensures.0 c.if-not-is_shown.false) in
    best_from c.args.sheet.now c.args.plan.now c.rows-rows.ensures.lawful permitted within shown

pub returns-clause-sheet : goal.returns-clause-sheet
returns-clause-sheet c =
    let made : IsMadeFor c.args.sheet.now c.args.plan.now = c.is_made_for.ensures.0 c.if-not-is_made_for.false in
    let permitted : IsPermitted c.args.plan.now = rw c.rows-rows.ensures.exact at (c.is_permitted.ensures.0 c.if-not-is_permitted.false) in
    let within : IsWithinCapacity c.args.sheet.now c.args.plan.now =
    rw (c.servers-servers.ensures.exact, c.rows-rows.ensures.exact, made.servers) at (c.is_within_capacity.ensures.0 c.if-not-is_within_capacity.false) in
    let shown : IsShown c.args.sheet.now c.args.plan.now =
    rw (c.servers-servers.ensures.exact, c.rows-rows.ensures.exact, made.servers) at (c.is_shown.ensures.0 c.if-not-is_shown.false) in
    agreeing_from c.args.sheet.now c.args.plan.now c.rows-rows.ensures.lawful permitted within shown
