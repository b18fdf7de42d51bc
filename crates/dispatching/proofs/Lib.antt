pub mod ReceiverLaws
pub mod VisitLaws
pub mod RoundLaws
pub mod EntryLaws
pub mod MarkLaws
