-- Of use above this crate: Guarding (the guard bits of a block), Locating (one flipped position); and of specs/ Linear (sums of columns),
-- Rows (rows of bits and numbers), Laws (both codes, the range word as sent).
pub mod Tables
pub mod Bounded
pub mod Checked
pub mod Guarding
pub mod Groups
pub mod Locating
