pub mod AllFaults
pub mod FaultSteps
