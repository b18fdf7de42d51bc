pub mod Juniors
pub mod Schema
pub mod Names
pub mod Rules
pub mod Checking
pub mod Candidates
pub mod Kept
