use Rattle.std.proofs.Common.{◌≡◌, ◌≤◌, length, map, ap, ◌∙◌, arith}
use Rattle.std.specs.List.{zip}
use Rattle.lb_desk_model.specs.Seen.{Seen, named_server}
use Rattle.lb_desk_core.specs.Core.{IsReached}
use Rattle.lb_desk_core.specs.Parts.{shown_of}
use Rattle.pin_table.specs.Kinds.{ArePinCounts}
use Rattle.lb_desk_core.proofs.Snapshots.{groups_at, has_counts, of_some_view, reached_few, reached_names, sheet_at}
use Rattle.lb_desk_core.proofs.backend_core.Core.sheet_from.Goals as goal

pub seen_servers-requires : goal.seen_servers-requires
seen_servers-requires g c =
    let p = c.self-inside.inside in
    let shown : Seen = shown_of p.0.0.balance p.0.0.settings p.0.0.names.items p.0.0.farm p.0.0.book p.0.0.table p.0.0.cursor p.0.0.latest in
    let reached : IsReached shown = rw (← c.self-inside.view_is) at c.self.invariant in
    let names = ap length c.deref.ensures.value in
    record {
      few = omega (arith, names, reached_few shown reached);
      whole = names ∙ reached_names shown reached;
    }

pub sheet_of-requires : goal.sheet_of-requires
sheet_of-requires g c =
    let p = c.self-inside.inside in
    let shown : Seen = shown_of p.0.0.balance p.0.0.settings p.0.0.names.items p.0.0.farm p.0.0.book p.0.0.table p.0.0.cursor p.0.0.latest in
    let reached : IsReached shown = rw (← c.self-inside.view_is) at c.self.invariant in
    let few : shown.version ≤ 9223372036854775808 = rw (← c.self.view_is, ← c.self-inside.view_is) at c.requires.version in
    let counted : ArePinCounts shown.pins c.args.counts.now = rw (← c.self.view_is, ← c.self-inside.view_is) at c.requires.counted in
    let servers : c.deref-2.result.now ≡ map named_server (zip shown.names shown.farm.servers) =
    rw (c.deref-2.ensures.value, ← c.deref.ensures.value) c.in_ok-servers.ensures in
    record {
      version = omega (arith, few, c.version-version.ensures);
      counts = of_some_view shown c.usable.result c.deref-2.result.now c.args.counts.now reached
          (has_counts shown c.usable.result c.deref-2.result.now c.args.counts.now c.usable.ensures.exact servers counted);
    }

pub returns : goal.returns
returns g c =
    let p = c.self-inside.inside in
    let shown : Seen = shown_of p.0.0.balance p.0.0.settings p.0.0.names.items p.0.0.farm p.0.0.book p.0.0.table p.0.0.cursor p.0.0.latest in
    let counted : ArePinCounts shown.pins c.args.counts.now = rw (← c.self.view_is, ← c.self-inside.view_is) at c.requires.counted in
    let servers : c.deref-2.result.now ≡ map named_server (zip shown.names shown.farm.servers) =
    rw (c.deref-2.ensures.value, ← c.deref.ensures.value) c.in_ok-servers.ensures in
    let has = has_counts shown c.usable.result c.deref-2.result.now c.args.counts.now c.usable.ensures.exact servers counted in
    let made = c.sheet_of.ensures in
    rw (← c.self.view_is, ← c.self-inside.view_is) (record {
      exact = sheet_at shown c.usable.result c.deref-2.result.now c.args.counts.now c.version-version.result c.sheet_of.result has
          c.version-version.ensures made.version made.lawful made.exact;
      groups = groups_at shown c.usable.result c.args.counts.now c.sheet_of.result c.usable.ensures.exact made.groups;
    })
