use Rattle.pin_file.proofs.Files.{file_is_spelled, file_is_read}
use Rattle.pin_file.proofs.pin_file_text.read_pin_file.Goals as goal

pub returns-clause-found : goal.returns-clause-found
returns-clause-found c = file_is_spelled c.args.text.now c.read_whole.result c.read_whole.ensures

pub returns-clause-only : goal.returns-clause-only
returns-clause-only c = file_is_read c.args.text.now c.read_whole.result c.read_whole.ensures
