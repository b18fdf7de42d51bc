pub mod Waiting
pub mod Lendable
pub mod LendCases
