pub mod NamingLaws
pub mod ScopeLaws
pub mod ScopePass
