pub mod Dataset
pub mod Words
pub mod Round
pub mod Rules
