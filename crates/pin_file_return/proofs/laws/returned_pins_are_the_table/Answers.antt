use Rattle.pin_file_return.proofs.Starts.{returned_are_the_table}
use Rattle.pin_file_return.proofs.laws.returned_pins_are_the_table.Goals as goal

pub returns : goal.returns
returns c = returned_are_the_table
