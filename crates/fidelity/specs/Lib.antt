pub mod Kept
pub mod Crossing
