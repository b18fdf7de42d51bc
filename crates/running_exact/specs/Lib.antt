pub mod Steps
pub mod Conditions
pub mod Effects
pub mod Output
pub mod Runs
pub mod Keeps
pub mod RunCases
