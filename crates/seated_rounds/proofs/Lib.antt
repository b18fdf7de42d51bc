pub mod SeatedVisitLaws
pub mod SeatedRoundLaws
pub mod EntryLaws
