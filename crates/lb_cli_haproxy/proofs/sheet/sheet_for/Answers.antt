use Rattle.std.proofs.Common.{rules, ◌≡◌, true, sym, ◌∙◌}
use Rattle.lb_cli_haproxy.proofs.SheetMade.{sheet}
use Rattle.lb_cli_haproxy.proofs.sheet.sheet_for.Goals as goal

pub returns : goal.returns
returns c =
    let is_there : c.is_there.result ≡ true = search rules in
    let found = rw c.deref.ensures.value at c.is_there.ensures in
    let bare = rw c.in-Some-2.is at c.in_ok-bare.ensures.exact in
    let made = rw c.in-Some-3.is at c.in_ok-sheet.ensures.exact in
    sheet c.args.target.now c.args.state.now c.args.dump.now c.in_ok-text.text.items c.in-Some.backend.now c.in-Some.gone.now
    c.in_ok-servers.servers.items c.in_ok-entries.entries.items c.in-Some-2.bare.items c.in_ok-farm.farm.items c.in_ok-clients.clients.items
    c.in_ok-places.places.items c.usable_servers.result c.in-Some-3.sheet
    c.in-Some.ensures.whole c.in_ok-servers.ensures c.in_ok-entries.ensures
    (sym found ∙ is_there)
    (rw c.deref-2.ensures.value at bare)
    (rw (c.deref-3.ensures.value, c.deref-4.ensures.value, c.deref-5.ensures.value) at c.in_ok-clients.ensures)
    (rw c.deref-6.ensures.value at c.in_ok-places.ensures)
    (λ at. rw c.deref-10.ensures.value at (c.usable_servers.ensures at))
    (rw (c.deref-7.ensures.value, c.deref-9.ensures.value) at c.in_ok-farm.ensures)
    (rw (c.deref-11.ensures.value, c.deref-12.ensures.value) at made)
    c.in_ok-text.ensures
