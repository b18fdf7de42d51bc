pub mod Placement
pub mod Idle
pub mod Placed
pub mod Counts
pub mod Causes
pub mod Promised
pub mod Cases
