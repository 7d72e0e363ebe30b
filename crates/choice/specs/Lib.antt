pub mod Orders
pub mod Hosts
pub mod Lawfuls
