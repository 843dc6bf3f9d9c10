use Rattle.pin_file.proofs.ReadPins.{pin_is_spelled, pin_is_read}
use Rattle.pin_file.proofs.pin_line.read_pin.Goals as goal

pub returns-clause-found : goal.returns-clause-found
returns-clause-found c = pin_is_spelled c.args.line.now c.read_line.result c.read_line.ensures

pub returns-clause-only : goal.returns-clause-only
returns-clause-only c = pin_is_read c.args.line.now c.read_line.result c.read_line.ensures
