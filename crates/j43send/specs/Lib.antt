pub mod Sending
pub mod Counts
