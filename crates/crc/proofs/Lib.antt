pub mod Step
pub mod Linear
pub mod Many
pub mod Parts
pub mod Examples
