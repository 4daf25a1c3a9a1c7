pub mod Numbers
pub mod Suited
pub mod Made
pub mod Stepped
pub mod Read
pub mod Obeyed
pub mod Strange
pub mod Passed
