pub mod Records
pub mod Coded
