pub mod Lists
pub mod Fields
pub mod Ends
pub mod Packed
pub mod Together
pub mod Padded
pub mod Plans
