pub mod Buffer
pub mod Places
pub mod Round
pub mod Rules
pub mod Once
