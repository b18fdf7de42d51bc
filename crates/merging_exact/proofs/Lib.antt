-- a tree with moved operands: what stays (moved-ons), how tables judge it (typed-both), what placing sees of it (labels-moved) and makes of it (placed-moved); for any two tables
pub mod MovedTrees
pub mod MovedRules
pub mod MovedLabels
pub mod MovedPlaced
-- both files move into the merged one (first-moves, second-moves), which is well formed (merged-formed-iff), passes exactly when both do (merged-obeys), and is placed as both are (merged-placed)
pub mod ListParts
pub mod Shifts
pub mod NamedItems
pub mod MergedMoves
pub mod MergedFormed
pub mod MergedRules
pub mod MergedPlaced
-- its contents are those of both, merged (merged-contents)
pub mod MergedContents
-- a file's own answer (own-first) and the file that it leaves (encoded-passed); the tests (tables-iff, sums-iff)
pub mod OwnAnswers
pub mod SumTests
-- the same of bytes; what is answered (merging-exactly) and written (merge-written)
pub mod MergedBytes
pub mod MergeAnswers
pub mod MergedOutput
-- files that hold the same are merged alike
pub mod SameMerging
-- files in literal words
pub mod MergesShown
