pub mod Answers
pub mod Forwarded
pub mod Framing
pub mod Options
pub use Rattle.lb_acl.specs.FieldView
pub use Rattle.lb_acl.specs.HeadView
pub use Rattle.lb_acl.specs.declared.head.Version
