pub mod Products
pub mod Sizes
pub mod Numbers
pub mod Concealing
pub mod Given
pub mod Clearing
pub mod Middles
pub mod Nearness
