use Rattle.std.proofs.Common.{◌≡◌, ◌++◌, List, map, take, sym, ap, ◌∙◌}
use Rattle.std.proofs.lemmas.List.{take_all}
use Rattle.std.proofs.lemmas.Simd.{map-map}
use Rattle.pin_set.specs.declared.table_pin.TablePin.{TablePin}
use Rattle.dual_cert_text.specs.Spellings.{text_of_lines}
use Rattle.pin_file.specs.Spellings.{pin_line}
use Rattle.pin_file.proofs.Pushes.{none_pushed, line_pushed}
use Rattle.pin_file_return.specs.Saves.{saved_pin}
use Rattle.lb_run_pins.specs.Saved.{TableView}
use Rattle.lb_run_pins.proofs.tables.Table.push_pins.Goals as goal

pub loop-number-init : goal.loop-number-init
loop-number-init g c = none_pushed c.args.text.now.items

pub loop-number-preserved : goal.loop-number-preserved
loop-number-preserved g c =
    let table = c.args.self.now in
    let line_of = λ (p : TablePin). pin_line (saved_pin table.backend.servers c.args.now p) in
    let pins : c.deref-row-items.result.now ≡ table.pins = c.deref-row-items.ensures.value ∙ ap (λ (t : TableView). t.pins) c.self.view_is in
    let servers : c.servers.result.now ≡ table.backend.servers = c.servers.ensures.exact ∙ ap (λ (t : TableView). t.backend.servers) c.self.view_is in
    let pin : c.in_ok-pin.pin ≡ saved_pin table.backend.servers c.args.now c.row-item.result = rw servers at c.in_ok-pin.ensures in
    let within = rw pins at c.loop-number-test.true in
    let here = rw pins at c.row-item.is in
    let more = rw pin at c.in_ok-push_pin.ensures in
    line_pushed c.args.text.now.items c.loop-number.text.items _ line_of table.pins c.loop-number.number c.row-item.result within here c.loop-number.invariant more

pub returns : goal.returns
returns g c =
    let table = c.args.self.now in
    let saved = saved_pin table.backend.servers c.args.now in
    let pins : c.deref-row-items.result.now ≡ table.pins = c.deref-row-items.ensures.value ∙ ap (λ (t : TableView). t.pins) c.self.view_is in
    let all : take c.loop-number.number table.pins ≡ table.pins = take_all c.loop-number.number table.pins (rw pins at c.loop-number-test.false) in
    c.loop-number.invariant
    ∙ ap (λ (ps : List TablePin). c.args.text.now.items ++ text_of_lines (map (λ p. pin_line (saved p)) ps)) all
    ∙ ap (λ ls. c.args.text.now.items ++ text_of_lines ls) (sym (map-map (λ p. pin_line p) saved table.pins))
