use Rattle.std.proofs.Common.{◌≡◌, ◌^◌, ◌<◌, length, ap, sym, subst, ◌∙◌}
use Rattle.lb_desk_model.specs.Serves.{IsNew}
use Rattle.pin_counts.specs.Counts.{HasOneMore}
use Rattle.pin_table.specs.declared.table_kind.TableKind.{TableKind}
use Rattle.pin_table.specs.Counted.{listed, AreCounted}
use Rattle.pin_table.specs.Kinds.{kind_of, same_kind}
use Rattle.pin_table.specs.Pins.{held_pin}
use Rattle.pin_set.specs.Names.{names_decide}
use Rattle.pin_table.proofs.Found.{new_absent}
use Rattle.pin_table.proofs.Counting.{on_ok, fits, counts-back, counted-push}
use Rattle.pin_table.proofs.counted_pins.CountedPins.push.Goals as goal

pub add-requires : goal.add-requires
add-requires g c =
    let few = subst (λ u. length u.pins < 2 ^ 32) (sym c.self.view_is) c.requires.few in
    fits c.self.inside.counts (listed c.self.inside.pins.pairs) c.self.invariant.counted few c.of.result

pub push-requires-clause-absent : goal.push-requires-clause-absent
push-requires-clause-absent g c =
    new_absent _ names_decide c.args.name c.self.inside.pins.pairs (subst (λ u. IsNew c.args.name u.pins) (sym c.self.view_is) c.requires.absent)

pub invariant_of-self-in-Err : goal.invariant_of-self-in-Err
invariant_of-self-in-Err g c =
    let kept = c.self.inside in
    let more = c.add.new.self in
    let new = c.remove.new.self in
    let pin = held_pin c.args.name c.args.held in
    let added = subst (λ (k : TableKind). HasOneMore same_kind kept.counts k more) c.of.ensures (on_ok c.add.result c.add.ensures.ok c.if-is_err.ensures.value) in
    let kind : c.of-in-Err.result ≡ kind_of pin = c.of-in-Err.ensures ∙ ap (λ v. kind_of (held_pin v.0 v.1)) c.in-Err.ensures.value_returned in
    let removed = subst (λ (k : TableKind). HasOneMore same_kind new k more) kind c.remove.ensures in
    subst (λ r. AreCounted (listed r.pairs) new) (sym c.in-Err.ensures.err) record {
      apart = c.self.invariant.apart;
      counted = counts-back kept.counts new (listed kept.pins.pairs) more pin c.self.invariant.counted added removed;
    }

pub invariant_of-self-in_default : goal.invariant_of-self-in_default
invariant_of-self-in_default g c =
    let kept = c.self.inside in
    let more = c.add.new.self in
    let added = subst (λ (k : TableKind). HasOneMore same_kind kept.counts k more) c.of.ensures (on_ok c.add.result c.add.ensures.ok c.if-is_err.ensures.value) in
    let unknown = subst (λ u. IsNew c.args.name u.pins) (sym c.self.view_is) c.requires.absent in
    subst (λ r. AreCounted (listed r.pairs) more) (sym c.in_default.ensures.ok)
    (counted-push kept.counts more kept.pins.pairs c.args.name c.args.held c.self.invariant unknown added)
