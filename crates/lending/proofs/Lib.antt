-- sizes; contexts by node, and as numbers
pub mod SizeLaws
pub mod ContextLaws
pub mod NarrowLaws
pub mod ScopeLaws
pub mod ScopeTable
-- judging
pub mod JudgeLaws
pub mod TotalsLaws
-- a list let through, the step by value, what the walk stores, and the start
pub mod AdmitLaws
pub mod StepLaws
pub mod StoredLaws
pub mod WalkLaws
pub mod StartingLaws
