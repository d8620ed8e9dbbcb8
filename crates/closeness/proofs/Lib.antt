pub mod Around
pub mod Codes
pub mod Closeness
