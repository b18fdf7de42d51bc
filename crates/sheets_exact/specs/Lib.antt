pub mod Records
pub mod Owed
pub mod SheetCases
