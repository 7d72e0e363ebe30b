pub mod Orders
pub mod First
pub mod Lawfuls
