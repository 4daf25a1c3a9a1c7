pub mod Encode
pub mod Shell
