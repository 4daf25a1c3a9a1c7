pub mod Fixed
pub mod Told
pub mod Once
pub mod OnceC
