pub mod ExploreLaws
pub mod ChoiceFits
pub mod KnownLaws
pub mod PartLaws
pub mod EntryLaws
