pub mod Contents
pub mod Records
pub mod Charges
pub mod Reactions
pub mod Verdicts
pub mod Refusals
pub mod Words
