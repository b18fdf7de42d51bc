pub mod IsReason
pub mod Reasons
pub mod ReasonCases
