use Rattle.std.proofs.Common.{◌≡◌, ap, ◌∙◌}
use Rattle.pin_file.proofs.Pushes.{backend_pushed}
use Rattle.lb_run_pins.specs.Saved.{TableView, pins_at}
use Rattle.lb_run_pins.proofs.tables.Table.push.Goals as goal

pub returns : goal.returns
returns g c =
    let table = c.args.self.now in
    let name : c.name.result ≡ table.backend.name = c.name.ensures ∙ ap (λ (t : TableView). t.backend.name) c.self.view_is in
    let named = rw name at c.in_ok-push_backend.ensures in
    backend_pushed c.args.text.now.items _ _ (pins_at c.args.now table) named c.in_ok-push_pins.ensures
