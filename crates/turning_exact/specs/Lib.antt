pub mod TurnCauses
pub mod ColumnWords
