-- the state in tables, and lists of choices
pub mod StateLaws
pub mod StoreLaws
pub mod ChoiceLaws
pub mod RunLaws
pub mod TriedLaws
