use Rattle.pin_file.proofs.Files.{file_alone}
use Rattle.pin_file.proofs.pin_file_text.one_text.Goals as goal

pub returns : goal.returns
returns c = λ a b rest kept_a kept_b begins. file_alone a b rest kept_a kept_b begins
