pub mod Demand
pub mod Loose
pub mod Named
