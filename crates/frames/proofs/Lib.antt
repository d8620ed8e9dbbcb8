pub mod Rows
pub mod Turns
pub mod Reading
pub mod Same
pub mod Whole
-- what only the sheet needs
mod Cells
mod Tables
mod Vectors
