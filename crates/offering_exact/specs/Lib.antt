pub mod Offered
pub mod OfferCases
