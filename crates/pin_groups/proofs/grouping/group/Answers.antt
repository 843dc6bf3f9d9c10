use Rattle.std.proofs.Common.{◌≡◌, refl, ◌∙◌}
use Rattle.cert_check_law.specs.Sheets.{listed_servers}
use Rattle.pin_groups.proofs.Sheets.{is_sheet}
use Rattle.pin_groups.proofs.grouping.group.Goals as goal

pub new-requires : goal.new-requires
new-requires c =
    let view = c.args.view.now in
    let servers : c.in_ok-servers.servers.items ≡ listed_servers view.usable view.servers =
    c.in_ok-servers.ensures ∙ rw (c.usable.ensures.exact, c.servers.ensures.exact) refl in
    let counts = rw (c.usable-2.ensures.exact, c.pins.ensures.exact) at c.in_ok-groups.ensures.counts in
    rw servers (is_sheet view c.usable.ensures.lawful c.args.version c.requires c.in_ok-groups.groups.items c.in_ok-groups.ensures.rising counts)
