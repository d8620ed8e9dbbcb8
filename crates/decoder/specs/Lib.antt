pub mod Findings
pub mod Verdicts
pub mod Levels
pub mod Samples
pub mod Marks
pub mod Received
pub mod Closeness
