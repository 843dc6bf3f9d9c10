use Rattle.std.proofs.Common.{◌≡◌, List, sum_by, ap, subst, ◌∙◌, arith}
use Rattle.lb_types_pins.specs.declared.kind.PinKind.{PinKind}
use Rattle.lb_types_pins.specs.declared.kind.Group.{Group}
use Rattle.dual_cert_plan.specs.Plans.{servers_of}
use Rattle.pin_set.specs.Rows.{count_in}
use Rattle.sheet_format.specs.Meanings.{IsOf}
use Rattle.sheet_format.specs.Texts.{Said}
use Rattle.sheet_format.proofs.Sheets.{lawful_sheet}
use Rattle.sheet_format.proofs.reading.Reading.into_sheet.Goals as goal

pub new-requires : goal.new-requires
new-requires c =
    let kept = c.self.invariant in
    let groups = c.self.inside.groups.items in
    let all = c.in_ok-groups.groups.items in
    let servers : c.in_ok-servers.servers.items ≡ servers_of c.self.inside.servers.items = c.in_ok-servers.ensures ∙ ap servers_of c.deref.ensures.value in
    let counts : (kind : PinKind) → count_in all kind ≡ count_in groups kind =
    λ kind. c.in_ok-groups.ensures.counts kind ∙ ap (λ (gs : List Group). count_in gs kind) c.deref-2.ensures.value in
    let total : sum_by (λ g. g.count) all ≡ sum_by (λ g. g.count) groups =
    c.in_ok-groups.ensures.total ∙ ap (λ (gs : List Group). sum_by (λ (g : Group). g.count) gs) c.deref-2.ensures.value in
    rw (c.unwrap_or.ensures, servers)
    (lawful_sheet c.self.inside.version (servers_of c.self.inside.servers.items) groups all kept.early kept.lawful kept.kinds
    (omega (arith, kept.sum, kept.small)) c.in_ok-groups.ensures.rising counts total)

pub returns : goal.returns
returns c =
    let groups = c.self.inside.groups.items in
    let all = c.in_ok-groups.groups.items in
    let servers : c.in_ok-servers.servers.items ≡ servers_of c.self.inside.servers.items = c.in_ok-servers.ensures ∙ ap servers_of c.deref.ensures.value in
    let counts : (kind : PinKind) → count_in all kind ≡ count_in groups kind =
    λ kind. c.in_ok-groups.ensures.counts kind ∙ ap (λ (gs : List Group). count_in gs kind) c.deref-2.ensures.value in
    subst (λ (s : Said). IsOf s c.new.result) c.self.view_is (rw c.new.ensures (record { version = c.unwrap_or.ensures; servers = servers; counts = counts }))
