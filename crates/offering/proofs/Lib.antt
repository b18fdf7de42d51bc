pub mod WriteLaws
pub mod OfferLaws
pub mod EntryLaws
