pub mod Crc
pub mod Little
pub mod Carry
