pub mod Parts
pub mod Kept
pub mod Short
pub mod KindLaws
