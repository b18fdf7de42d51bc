pub mod State
pub mod WordList
