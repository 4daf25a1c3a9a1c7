pub mod Commands
pub mod Changes
pub mod Lends
pub mod Makes
pub mod Obeys
