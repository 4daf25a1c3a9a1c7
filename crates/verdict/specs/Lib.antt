pub mod Passed
pub mod Products
