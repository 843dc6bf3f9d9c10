-- Commands of the command socket, one text after another.
use Rattle.std.proofs.Common.{◌≡◌, ℕ, ◌<◌, ◌≤◌, true, List, [], ◌∷◌, ◌++◌, Result, Err, refl, sym, ◌∙◌, length, append_assoc}
use Rattle.std.proofs.lemmas.List.{append-nil}
use Rattle.std.proofs.lemmas.Bool.{lt-ltb, le-ltb}
use Rattle.lb_types_text.specs.Parts.{parts}
use Rattle.command_socket_words.specs.declared.socket_command.SocketCommand.{SocketCommand}
use Rattle.command_socket_words.specs.declared.fault.CommandFault.{CommandFault}
use Rattle.command_socket_words.specs.declared.fault.CommandFault.TheVariants.{UnknownCommand}
use Rattle.command_socket_words.specs.Words.{words_in, is_filled}
use Rattle.command_socket_words.specs.SocketCommands.{socket_command_of, socket_commands_among, socket_commands_of}

abbrev Read : Type 0
Read = Result SocketCommand CommandFault

-- a text without words gives nothing
pub among_none : (read : List Read) (text : List ℕ) (more : List (List ℕ)) (all : List Read) → words_in text ≡ [] → read ++ socket_commands_among (text ∷ more) ≡ all → read ++ socket_commands_among more ≡ all
unfolding socket_commands_among
among_none read text more all none so_far = rw none at so_far

-- a text with words gives its command or fault
pub among_more : (read : List Read) (next : Read) (text : List ℕ) (more : List (List ℕ)) (all : List Read) → is_filled (words_in text) ≡ true → next ≡ socket_command_of (words_in text) → read ++ socket_commands_among (text ∷ more) ≡ all → (read ++ next ∷ []) ++ socket_commands_among more ≡ all
unfolding socket_commands_among
among_more read next text more all filled is so_far =
    let now = rw filled at so_far in
    rw (append_assoc, is) now

-- once no text is left, all were read
pub among_all : (read all : List Read) → read ++ socket_commands_among [] ≡ all → read ≡ all
unfolding socket_commands_among
among_all read all so_far = sym (append-nil read) ∙ so_far

pub commands_long : (line : List ℕ) → 4096 < length line → socket_commands_of line ≡ Err UnknownCommand ∷ []
unfolding socket_commands_of
commands_long line long = rw (lt-ltb 4096 (length line) long) refl

pub commands_short : (line : List ℕ) → length line ≤ 4096 → socket_commands_of line ≡ socket_commands_among (parts 59 line)
unfolding socket_commands_of
commands_short line short = rw (le-ltb 4096 (length line) short) refl
