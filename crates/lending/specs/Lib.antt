pub mod Lent
pub mod Scopes
pub mod Walk
pub mod Storing
pub mod Starting
