pub mod Arrivals
pub mod Blocks
pub mod Given
pub mod Recording
pub mod Carried
pub mod Records
pub mod Reports
