-- what the tests say: masks, operands, steps
pub mod OperandKinds
pub mod StepRules
pub mod KnownKinds
-- the first refusal
pub mod ContextStack
pub mod FirstNode
pub mod NameFaults
pub mod RoleFaults
pub mod CheckFirst
-- whole trees, and what a file holds
pub mod ClearTrees
pub mod TreeRules
pub mod FileRules
pub mod CheckExact
-- what both sides rest on: grants by words, masks by items, the context below a node
pub mod GrantWords
pub mod BelowLaws
