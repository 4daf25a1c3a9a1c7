pub mod Values
pub mod Asked
pub mod Card
pub mod Entry
pub mod Ticket
pub mod Given
