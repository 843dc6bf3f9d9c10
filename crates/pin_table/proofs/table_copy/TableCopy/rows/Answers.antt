use Rattle.std.proofs.Common.{◌++◌, ◌∷◌, [], ap, sym, ◌∙◌, append-nil, append_assoc}
use Rattle.pin_set.specs.declared.table_pin.TablePin.{TablePin}
use Rattle.pin_table.specs.Counted.{listed}
use Rattle.pin_table.specs.Pins.{held_pin}
use Rattle.pin_table.proofs.table_copy.TableCopy.rows.Goals as goal

pub loop-name-preserved : goal.loop-name-preserved
loop-name-preserved g c =
    let next = held_pin c.in-Some.name.now c.in-Some.held.now in
    let items = c.loop-name.rows.items in
    let rest = listed c.next.new.self in
    ap (λ l. l ++ rest) (c.in_ok-push.ensures.items ∙ ap (λ (p : TablePin). items ++ p ∷ []) c.in_ok-row.ensures)
    ∙ append_assoc items (next ∷ []) rest
    ∙ ap (λ es. items ++ listed es) (sym c.in-Some.ensures.steps)
    ∙ c.loop-name.invariant

pub returns : goal.returns
returns g c =
    let items = c.loop-name.rows.items in
    sym (append-nil items) ∙ ap (λ es. items ++ listed es) (sym c.in-None.ensures.steps.0) ∙ c.loop-name.invariant
    ∙ ap (λ es. listed es) (c.into_iter-name-iterator.ensures.into_iter_gives ∙ c.iter-name-items.ensures)
    ∙ c.self.view_is
