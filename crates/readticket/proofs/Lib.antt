pub mod InOrder
pub mod Taken
pub mod Sectors
pub mod Blocks
pub mod TwoCalls
