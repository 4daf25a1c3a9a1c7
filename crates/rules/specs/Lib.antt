pub mod Claim
pub mod First
pub mod Rows
pub mod Lowest
pub mod Answer
pub mod Reasons
pub mod Refusals
