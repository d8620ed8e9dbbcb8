mod Lost
mod Receives
