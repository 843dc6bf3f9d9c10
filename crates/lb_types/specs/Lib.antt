pub mod NameFields
pub mod Names
pub mod Servers
pub use Rattle.lb_types_counted.specs.Writers
