use Rattle.std.proofs.Common.{◌≡◌, refl, ◌∙◌}
use Rattle.cert_check_law.specs.Sheets.{listed_servers}
use Rattle.pin_groups.proofs.Sheets.{is_sheet}
use Rattle.pin_groups.proofs.Tally.{groups-counted, counts-few}
use Rattle.pin_groups.proofs.counted.sheet_of.Goals as goal

pub groups_counted-requires : goal.groups_counted-requires
groups_counted-requires c =
    let some = c.requires.counts in
    counts-few c.args.usable c.args.servers.now c.args.counts.now some.view some.lawful some.counted

pub new-requires : goal.new-requires
new-requires c =
    let some = c.requires.counts in
    let view = some.view in
    let groups = c.in_ok-groups.groups.items in
    let listed : c.in_ok-listed.listed.items ≡ listed_servers view.usable view.servers =
    c.in_ok-listed.ensures ∙ rw (some.counted.same_usable, some.counted.same_servers) refl in
    let counts = groups-counted c.args.usable c.args.servers.now c.args.counts.now view groups some.counted c.in_ok-groups.ensures.counts in
    rw listed (is_sheet view some.lawful c.args.version c.requires.version groups c.in_ok-groups.ensures.rising counts)

pub returns-clause-exact : goal.returns-clause-exact
returns-clause-exact c = λ view has.
    let listed : c.in_ok-listed.listed.items ≡ listed_servers view.usable view.servers =
    c.in_ok-listed.ensures ∙ rw (has.same_usable, has.same_servers) refl in
    let groups = c.in_ok-groups.groups.items in
    rw c.new.ensures (record {
      servers = listed;
      counts = groups-counted c.args.usable c.args.servers.now c.args.counts.now view groups has c.in_ok-groups.ensures.counts;
    })

pub returns-clause-groups : goal.returns-clause-groups
returns-clause-groups c = rw c.new.ensures c.in_ok-groups.ensures.counts
