mod Counts
mod Crossed
mod Near
mod Passing
mod Within
