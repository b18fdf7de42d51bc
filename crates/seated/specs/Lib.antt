pub mod SeatedTables
pub mod SeatedLists
pub mod SeatedEntry
pub mod ReadWords
