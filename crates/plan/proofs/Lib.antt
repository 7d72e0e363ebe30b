pub mod Layouts
pub mod Places
pub mod Growing
