use Rattle.std.proofs.Common.{refl, ap, sym, subst, ◌∙◌}
use Rattle.dual_cert_plan.specs.Plans.{groups_of}
use Rattle.pin_table.specs.Kinds.{ArePinCounts}
use Rattle.pin_table.specs.Tables.{with_pins}
use Rattle.pin_install.specs.Installed.{table_view}
use Rattle.pin_install.proofs.Fitting.{has_counts, groups_of_counts, agrees}
use Rattle.pin_install.proofs.Behind.{loads_behind, view_behind}
use Rattle.pin_install.proofs.installing.install.Goals as goal

pub returns-in-Err-clause-judged : goal.returns-in-Err-clause-judged
returns-in-Err-clause-judged g c =
    let table = c.args.table.now in
    let view = table_view c.args.usable c.args.servers.now table in
    let are = subst (ArePinCounts table.pins) (sym c.deref.ensures.value) c.in_ok-counts.ensures.exact in
    record {
      sheet = c.in_ok-sheet.sheet;
      of = record {
        lawful = c.in_ok-sheet.ensures.lawful;
        version = c.in_ok-sheet.ensures.version ∙ c.version.ensures;
        stands = c.in_ok-sheet.ensures.exact view (has_counts c.args.usable c.args.servers.now table _ are);
      };
      verdict = sym c.in-Err.ensures.exact;
    }

pub moves_of-requires-clause-groups : goal.moves_of-requires-clause-groups
moves_of-requires-clause-groups g c =
    let table = c.args.table.now in
    let servers = c.args.servers.now in
    let view = table_view c.args.usable servers table in
    let are = subst (ArePinCounts table.pins) (sym c.deref.ensures.value) c.in_ok-counts.ensures.exact in
    let stands = c.in_ok-sheet.ensures.exact view (has_counts c.args.usable servers table _ are) in
    let made = (c.in-Ok.ensures.ok.0 refl).0 in
    groups_of_counts c.args.usable servers table c.deref-2.result.now c.in_ok-sheet.sheet (groups_of c.args.plan.now.rows)
    (subst (ArePinCounts table.pins) (sym c.deref-2.ensures.value) c.in_ok-counts.ensures.exact) stands made.groups

pub returns-clause-judged : goal.returns-clause-judged
returns-clause-judged g c =
    let table = c.args.table.now in
    let view = table_view c.args.usable c.args.servers.now table in
    let are = subst (ArePinCounts table.pins) (sym c.deref.ensures.value) c.in_ok-counts.ensures.exact in
    record {
      sheet = c.in_ok-sheet.sheet;
      of = record {
        lawful = c.in_ok-sheet.ensures.lawful;
        version = c.in_ok-sheet.ensures.version ∙ c.version.ensures;
        stands = c.in_ok-sheet.ensures.exact view (has_counts c.args.usable c.args.servers.now table _ are);
      };
      verdict = sym c.in-Ok.ensures.exact;
    }

pub returns-clause-installed : goal.returns-clause-installed
returns-clause-installed g c =
    let table = c.args.table.now in
    let servers = c.args.servers.now in
    let view = table_view c.args.usable servers table in
    let rows = c.args.plan.now.rows in
    let are = subst (ArePinCounts table.pins) (sym c.deref.ensures.value) c.in_ok-counts.ensures.exact in
    let stands = c.in_ok-sheet.ensures.exact view (has_counts c.args.usable servers table _ are) in
    let placed = c.in_ok-set_places.ensures.ok in
    let fits = agrees c.args.usable servers table rows c.in_ok-moves.moves.items c.set_places.new.self.pins placed c.in_ok-moves.ensures.sent in
    record {
      places = placed.places;
      moves = record {
        accepted = c.in-Ok.score;
        judges = returns-clause-judged g c;
        agrees = fits;
        score_is = c.in-Ok.ensures.score ∙ sym (c.in-Ok.ensures.best.score view placed.places stands fits);
      };
      new_is = c.in_ok-set_places.ensures.rest ∙ ap (with_pins table) placed.new_is;
    }

pub returns-clause-same_view : goal.returns-clause-same_view
returns-clause-same_view g c =
    view_behind c.args.usable c.args.servers.now c.args.plan.now c.in-Ok.score c.args.table.now c.set_places.new.self (returns-clause-installed g c) c.requires.lawful

pub returns-clause-loads : goal.returns-clause-loads
returns-clause-loads g c =
    loads_behind c.args.usable c.args.servers.now c.args.plan.now c.in-Ok.score c.args.table.now c.set_places.new.self (returns-clause-installed g c)
