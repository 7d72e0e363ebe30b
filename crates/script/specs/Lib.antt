pub mod Tallies
pub mod Texts
pub mod Plans
