use Rattle.std.proofs.lemmas.Result.{on_ok_weaker}
use Rattle.pin_file.proofs.Pushes.{file_pushed}
use Rattle.pin_file.proofs.pushing.push_file.Goals as goal

pub returns : goal.returns
returns c =
    let body = rw c.backends.ensures.exact at c.in_ok-push_backends.ensures in
    on_ok_weaker _ (file_pushed c.args.text.now.items _ _ _ c.args.file.now c.in_ok-push_first_line.ensures body) c.push_last_line.ensures
