pub mod Bytes
pub mod Numbers
pub mod Words
pub mod Hex
pub mod Printed
pub mod Written
pub mod Lines
