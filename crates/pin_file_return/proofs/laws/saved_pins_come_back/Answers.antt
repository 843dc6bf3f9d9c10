use Rattle.pin_file_return.proofs.Again.{saved_come_back}
use Rattle.pin_file_return.proofs.laws.saved_pins_come_back.Goals as goal

pub returns : goal.returns
returns c = saved_come_back
