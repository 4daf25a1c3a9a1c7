pub mod Meeting
pub mod Memory
pub mod ReadAgain
pub mod Encoded
pub mod Refused
pub mod Taken
pub mod Mixed
pub mod Kept
