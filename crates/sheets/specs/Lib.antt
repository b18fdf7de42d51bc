pub mod Files
pub mod Sheets
pub mod Entries
