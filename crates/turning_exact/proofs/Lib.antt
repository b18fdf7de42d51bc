pub mod HeadCauses
pub mod Turned
pub mod TurnExact
