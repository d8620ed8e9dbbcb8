pub mod Receiving
