pub mod World
pub mod Places
pub mod Opening
pub mod Steps
pub mod Desks
pub mod Lent
