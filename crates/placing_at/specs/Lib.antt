pub mod PlaceAt
