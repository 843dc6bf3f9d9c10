use Rattle.pin_file.specs.Spellings.{pin_line}
use Rattle.pin_file.proofs.Pushes.{pin_pushed}
use Rattle.pin_file.proofs.pushing.push_pin.Goals as goal

pub returns : goal.returns
unfolding pin_line
returns c =
    let key = rw c.as_bytes.ensures at c.in_ok-push_text_word.ensures in
    let wanted = rw c.as_slice.ensures at c.in_ok-push_wanted.ensures in
    let server = rw c.server_word.ensures at c.in_ok-extend_from_slice-4.ensures.items in
    pin_pushed c.args.text.now.items _ _ _ _ _ _ _ _ _ _ _ _ c.in_ok-extend_from_slice.ensures.items key c.in_ok-extend_from_slice-2.ensures.items wanted c.in_ok-extend_from_slice-3.ensures.items server c.in_ok-push_numbers.ensures
