pub mod Peaked
mod Made
pub mod Ranging
