pub mod Opened
pub use Rattle.lb_desk_backend.specs.Configured
pub use Rattle.lb_desk_model.specs.Seen
pub use Rattle.lb_desk_step.specs.Desk
pub use Rattle.lb_desk_step.specs.Planning
pub use Rattle.lb_desk_step.specs.Worlds
