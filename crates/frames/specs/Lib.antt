pub mod Places
pub mod Frame
pub mod Content
pub mod Faults
pub mod Answers
pub mod Sheet
