pub mod Lists
pub mod Tree
pub mod File
pub mod Order
pub mod Refusals
pub mod ByWords
