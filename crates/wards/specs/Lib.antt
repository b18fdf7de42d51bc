pub mod Ward
pub mod WardCases
