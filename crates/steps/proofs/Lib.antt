pub mod ThreadLaws
pub mod TableLaws
pub mod ActLaws
pub mod TotalLaws
