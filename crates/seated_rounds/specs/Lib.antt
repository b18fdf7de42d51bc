pub mod SeatedVisits
pub mod RoundEntry
