pub mod KeptLaws
pub mod LineLaws
