pub mod Resolved
pub mod SocketResolved
pub use Rattle.command_socket_words.specs.Commands
pub use Rattle.command_socket_words.specs.Faults
pub use Rattle.command_socket_words.specs.Lines
pub use Rattle.command_socket_words.specs.Meanings
pub use Rattle.command_socket_words.specs.SocketCommands
pub use Rattle.command_socket_words.specs.Words
