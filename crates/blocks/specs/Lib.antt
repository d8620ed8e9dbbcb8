pub mod Ranges
pub mod Peaks
pub mod Coding
