pub mod Trace
pub mod Parts
pub mod Jobs
