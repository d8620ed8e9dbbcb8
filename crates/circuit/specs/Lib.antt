pub mod Faults
pub mod Putting
pub mod Taking
pub mod History
pub mod Promise
