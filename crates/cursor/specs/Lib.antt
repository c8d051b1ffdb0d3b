pub mod RunSteps
pub mod Said
