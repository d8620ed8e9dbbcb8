pub mod Off
pub mod Hits
pub mod Guarded
pub mod Parities
pub mod Near
pub mod Hurting
pub mod Octets
