pub mod Commute
pub mod Example
pub mod Incident
pub mod Jobs
pub mod Touched
