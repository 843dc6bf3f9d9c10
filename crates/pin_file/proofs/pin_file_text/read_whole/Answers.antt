use Rattle.pin_file.specs.Texts.{file_of_text}
use Rattle.pin_file.proofs.Files.{file_found}
use Rattle.pin_file.proofs.pin_file_text.read_whole.Goals as goal

pub into_file-requires : goal.into_file-requires
into_file-requires c = (file_found c.args.text.now c.in_ok-draft.draft c.in_ok-draft.ensures).0

pub returns : goal.returns
unfolding file_of_text
returns c = rw c.in_ok-draft.ensures c.into_file.ensures
