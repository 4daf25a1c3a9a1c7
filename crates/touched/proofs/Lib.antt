pub mod Alike
pub mod Compare
pub mod Exactly
pub mod Flags
pub mod Told
pub mod Pairs
