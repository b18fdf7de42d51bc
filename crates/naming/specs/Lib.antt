pub mod Scopes
pub mod Kept
