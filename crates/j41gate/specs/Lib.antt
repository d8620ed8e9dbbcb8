pub mod Crossing
pub mod Trial
pub mod Tally
pub mod Task
