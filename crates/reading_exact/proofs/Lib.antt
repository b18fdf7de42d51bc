-- Trees as nodes: what passes refusal 8 is trees, and trees pass it (shape-complete, shape-sound, flatten-single)
pub mod TreeEnds
pub mod NodeSorts
pub mod Standing
pub mod TreeNodes
pub mod ShapeComplete
pub mod ShapeSound
pub mod WordedTrees
-- Sections as words: what their records are written as, and where they stand in a file
pub mod AllLaws
pub mod Bytes
pub mod Rows
pub mod SectionRows
pub mod Places
pub mod WholeFile
-- Reading and encoding are inverse: what reading judges of contents, and of files (contents-back, contents-held, single, reads-iff, sound, complete-read, one-read, two-read, encode-bytes)
pub mod RecordsJudged
pub mod ContentsJudged
pub mod FileContents
pub mod Exact
pub mod AsSecond
pub mod EncodedBytes
-- The first refusal in an order
pub mod FirstLaws
pub mod Turns
-- Refusal 8 is of the first misshapen place (shape-first)
pub mod FollowedEnds
pub mod ReachedStack
pub mod DueStack
pub mod TagTests
pub mod NodesObjected
pub mod ShapeFirst
-- The answer of reading is the first refusal in the paper's order (first-refusal, reading-fine)
pub mod RecordsObjected
pub mod RecordsFirst
pub mod FirstRefusal
-- What a file holds, word by word (counted-by-words, by-words)
pub mod RecordWords
