pub mod Members
pub mod Kept
pub mod Drafts
