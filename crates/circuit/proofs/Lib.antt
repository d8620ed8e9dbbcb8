pub mod Weaving
pub mod Outside
mod Measured
pub mod Moves
pub mod Frames
pub mod Puts
pub mod Receptions
pub mod Fours
pub mod Histories
pub mod Last
pub mod Answering
