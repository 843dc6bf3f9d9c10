pub mod Heads
pub mod ReadHeadView
pub mod Scans
pub use Rattle.http_relay_forward.specs.Framing
pub use Rattle.http_relay_forward.specs.HeadView
pub use Rattle.http_relay_forward.specs.declared.framing.BodyKind
pub use Rattle.http_relay_wire.specs.Faults
pub use Rattle.http_relay_wire.specs.Wires
