pub mod PlaceLaws
pub mod Laws
pub mod RoundStates
pub mod Searching
pub mod Visiting
pub mod Rounding
pub mod Living
