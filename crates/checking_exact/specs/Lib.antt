pub mod Tables
pub mod Typing
pub mod Faults
pub mod Below
pub mod ByWords
