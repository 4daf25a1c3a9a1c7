pub mod Acts
pub mod Calls
pub mod Exactly
pub mod Frame
pub mod Keeps
pub mod Touches
pub mod Written
