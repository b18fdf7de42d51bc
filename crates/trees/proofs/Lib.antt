pub mod EndsLaws
pub mod FitsLaws
pub mod ShapeLaws
pub mod SoundExact
pub mod SoundLaws
mod SumLaws
