-- Of use above this crate: Listing (frames that are equal as lists are recorded alike).
pub mod Listing
mod Pairs
mod Words
mod Judging
mod Silence
mod Turning
mod Joining
mod Rows
mod Outlets
