pub mod GroupLaws
pub mod WriteLaws
