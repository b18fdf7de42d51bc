pub mod ReadingLaws
pub mod LongLaws
