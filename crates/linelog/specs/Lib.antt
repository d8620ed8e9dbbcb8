pub mod Text
pub mod Lines
pub mod Faults
pub mod Written
pub mod Logging
