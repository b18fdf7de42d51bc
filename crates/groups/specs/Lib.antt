pub mod Groups
pub mod Switches
