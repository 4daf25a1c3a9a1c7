pub mod Calendar
pub mod Impossible
pub mod Counting
pub mod Coded
