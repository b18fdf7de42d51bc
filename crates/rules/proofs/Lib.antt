pub mod ClosureLaws
pub mod PermittedRoles
pub mod JuniorGrants
pub mod GrantLaws
pub mod NameLaws
pub mod StepLaws
pub mod StackLaws
pub mod PassLaws
