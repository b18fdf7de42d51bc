pub mod Merged
pub mod Merging
pub mod Writers
