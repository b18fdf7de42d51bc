pub mod Moved
pub mod MergedFile
pub mod Sums
pub mod Operands
pub mod MergeCauses
pub mod MergeCases
