pub mod Table
pub mod Phrases
