mod Refusing
pub mod Made
