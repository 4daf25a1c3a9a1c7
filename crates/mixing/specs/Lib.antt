pub mod Run
pub mod Mix
pub mod Alike
