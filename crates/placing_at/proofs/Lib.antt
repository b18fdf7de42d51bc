pub mod OpenLaws
pub mod PlaceAtLaws
