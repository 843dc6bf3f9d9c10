-- What is read of a connection.
use Rattle.std.proofs.Common.{◌≡◌, ℕ, Option, Some, None, IfSome, List, [], ◌++◌, take, option_map}
use Rattle.std.specs.Io.BufRead.{take_through}
use Rattle.std.specs.Io.KnownBytes.{prepend_known}
use Rattle.command_socket_serve.specs.Lines.{IsTextOf}

-- a line that was read of the first bytes
pub reads_text : (known : Option (List ℕ)) (text : List ℕ)
    → IfSome (prepend_known [] (option_map (take 4098) known)) (λ bytes. text ≡ [] ++ take_through 10 bytes)
    → IsTextOf known text
reads_text None text read = tt
reads_text (Some input) text read = read
