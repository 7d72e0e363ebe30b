pub mod Places
pub mod Refusing
