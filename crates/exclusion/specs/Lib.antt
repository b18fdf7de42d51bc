pub mod Exclusion
pub mod SpringCases
