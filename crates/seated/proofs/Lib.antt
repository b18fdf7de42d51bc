pub mod RoleLaws
pub mod WaitLaws
pub mod OwnerLaws
pub mod ChoseLaws
pub mod ListLaws
mod OneLaws
pub mod StartLaws
pub mod OpenLaws
pub mod BesideLaws
pub mod EntryLaws
pub mod ReadLaws
pub mod SeatsLaws
