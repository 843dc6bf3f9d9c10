-- Faults of commands, and steps of reading of which the first fault counts.
use Rattle.std.specs.Prelude.{ℕ, List, codes, Result, Ok, Err}
use Rattle.command_socket_words.specs.declared.fault.CommandFault.{CommandFault}
use Rattle.command_socket_words.specs.declared.fault.CommandFault.TheVariants.{UnknownCommand, MissingWord, BadNumber, NoBackend, NoSuchServer}

-- the second step, if the first one found no fault
infixl 10 ◌>>=◌
abbrev pub ◌>>=◌ : {A B : Type 0} → Result A CommandFault → (A → Result B CommandFault) → Result B CommandFault
(Ok x) >>= f = f x
(Err e) >>= f = Err e

-- the fault's number in answers to operators
abbrev pub number_of : CommandFault → ℕ
number_of UnknownCommand = 100
number_of MissingWord = 101
number_of BadNumber = 102
number_of NoBackend = 103
number_of NoSuchServer = 10

-- a fault as it is printed
abbrev pub fault_text : CommandFault → List ℕ
fault_text UnknownCommand = codes "100 UnknownCommand"
fault_text MissingWord = codes "101 MissingWord"
fault_text BadNumber = codes "102 BadNumber"
fault_text NoBackend = codes "103 NoBackend"
fault_text NoSuchServer = codes "10 NoSuchServer"
