-- an input's whole files are its records (whole-files) and no others (whole-only)
pub mod FilesLaws
-- each figure is the sum, the count or the greatest over the files' entries
pub mod SheetLaws
-- two orders of the same files (orders)
pub mod Orders
-- the pass finds the most on steps of a tree (all-most)
pub mod MostTrees
-- a file's entry is what placing it by itself gives (entry-number, entry-most), and so is the sheet (sheet-says)
pub mod EntryPlaced
pub mod SheetOwed
-- sheets in literal words
pub mod SheetsShown
