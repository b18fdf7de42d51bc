pub mod StateLaws
pub mod WordLaws
