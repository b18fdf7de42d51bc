pub mod OpenFile
pub mod HourFaults
pub mod PromisedAt
pub mod HourCases
