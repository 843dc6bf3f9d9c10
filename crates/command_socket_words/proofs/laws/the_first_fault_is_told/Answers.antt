use Rattle.command_socket_words.proofs.BadNumbers.{command_numbers}
use Rattle.command_socket_words.proofs.FirstFaults.{command_reading}
use Rattle.command_socket_words.proofs.laws.the_first_fault_is_told.Goals as goal

pub returns : goal.returns
returns c = record { stays = command_reading.stays; missing = command_reading.goes_on; ends = command_reading.ends; number = command_numbers }
