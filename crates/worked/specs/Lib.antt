pub mod Cards
pub mod Pinned
pub mod Worked
pub mod Told
pub mod Night
pub mod Area
pub mod Mixed
