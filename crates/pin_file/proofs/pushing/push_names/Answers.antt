use Rattle.pin_file.proofs.Pushes.{name_pushed}
use Rattle.pin_file.proofs.pushing.push_names.Goals as goal

pub loop-name-preserved : goal.loop-name-preserved
loop-name-preserved c =
    let name = rw c.as_bytes-in-loop-name.ensures.exact at c.in_ok-extend_from_slice-3.ensures.items in
    name_pushed c.args.text.now.items c.loop-name.text.items _ _ c.args.first.now c.args.more.now c.loop-name.name-index c.name-item.result c.loop-name-test.true c.name-item.is c.loop-name.invariant c.in_ok-extend_from_slice-2.ensures.items name
