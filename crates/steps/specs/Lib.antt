pub mod Step
pub mod Steps
pub mod Touched
pub mod Flags
