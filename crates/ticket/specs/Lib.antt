pub mod Kind
pub mod Ticket
pub mod Checks
pub mod Memory
pub mod Coded
