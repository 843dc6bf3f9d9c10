pub mod ServerSteps
pub mod ValueSteps
