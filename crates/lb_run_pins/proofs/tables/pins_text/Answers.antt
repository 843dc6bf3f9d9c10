use Rattle.std.proofs.Common.{◌≡◌, ◌++◌, List, map, take, sym, ap, ◌∙◌}
use Rattle.std.specs.List.{flat_map}
use Rattle.std.proofs.lemmas.List.{take_all}
use Rattle.std.proofs.lemmas.List.Folds.{flat_map-map}
use Rattle.dual_cert_text.specs.Spellings.{text_of_lines}
use Rattle.pin_file.specs.Spellings.{backend_lines, spelling}
use Rattle.pin_file.proofs.Pushes.{none_pushed, lines_pushed, file_pushed}
use Rattle.lb_run_pins.specs.Saved.{TableView, pins_at}
use Rattle.lb_run_pins.proofs.tables.pins_text.Goals as goal

pub loop-table-init : goal.loop-table-init
loop-table-init g c = none_pushed c.push_first_line.new.text.items

pub loop-table-preserved : goal.loop-table-preserved
loop-table-preserved g c =
    lines_pushed c.push_first_line.new.text.items c.loop-table.text.items _ (λ t. backend_lines (pins_at c.args.now t)) c.args.tables.now
    c.loop-table.table-index c.table-item.result c.loop-table-test.true c.table-item.is c.loop-table.invariant c.in_ok-push.ensures

pub returns : goal.returns
returns g c =
    let first = c.push_first_line.new.text.items in
    let tables = c.args.tables.now in
    let file = map (pins_at c.args.now) tables in
    let all : take c.loop-table.table-index tables ≡ tables = take_all c.loop-table.table-index tables c.loop-table-test.false in
    let body : c.loop-table.text.items ≡ first ++ text_of_lines (flat_map (λ b. backend_lines b) file) =
    c.loop-table.invariant
    ∙ ap (λ (ts : List TableView). first ++ text_of_lines (flat_map (λ t. backend_lines (pins_at c.args.now t)) ts)) all
    ∙ ap (λ ls. first ++ text_of_lines ls) (sym (flat_map-map (λ b. backend_lines b) (pins_at c.args.now) tables)) in
    file_pushed c.new-text.result.items first c.loop-table.text.items _ file c.in_ok-push_first_line.ensures body c.in_ok-push_last_line.ensures
    ∙ ap (λ old. old ++ spelling file) c.new-text.ensures.items
