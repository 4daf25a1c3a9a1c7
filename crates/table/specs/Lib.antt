pub mod Table
pub mod Coded
