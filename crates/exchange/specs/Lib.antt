pub mod Sites
pub mod Answers
pub mod Plannings
pub mod Texts
