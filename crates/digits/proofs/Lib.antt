pub mod Nibbles
pub mod Bytewise
pub mod Joined
pub mod Luhn
pub mod Examples
