pub mod EntryLaws
pub mod MostLaws
pub mod Loop
