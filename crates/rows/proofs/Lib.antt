pub mod StandLaws
pub mod ReadLaws
pub mod LoadLaws
pub mod FitLaws
