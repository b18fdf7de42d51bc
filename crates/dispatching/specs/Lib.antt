pub mod Dispatch
pub mod Marks
pub mod Visits
