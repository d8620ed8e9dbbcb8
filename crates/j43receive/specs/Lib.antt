pub mod Samples
pub mod Counts
