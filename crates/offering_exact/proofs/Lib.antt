pub mod Offered
pub mod Written
pub mod Lent
pub mod OffersShown
